use Rattle.std.proofs.Common.{refl, subst, sym}
use Rattle.std.specs.Prelude.{IsTrue}
use Rattle.a2_device.specs.Device.{DeviceState}
use Rattle.image_readings.specs.Readings.{Stands}
use Rattle.volume_compare.specs.Contents.{volume_in}
use Rattle.image_survey.specs.Content.{IsContent}
use Rattle.image_survey.proofs.Standings.{stands_before}
use Rattle.image_survey.proofs.facts.facts_on.Goals as goal

pub returns : goal.returns
returns g c =
    let old = g.D.Device.state c.args.device.now in
    let mid = g.D.Device.state c.read_volume.new.device in
    let new = g.D.Device.state c.content_of.new.device in
    let files = g.F.FileFormat.files c.args.format.now in
    let meaning = g.F.Format.meaning c.args.format.now in
    let directory = g.F.Format.directory c.args.format.now c.in-Ok.volume in
    let same = c.in-Ok.ensures.device.kept c.requires.honest refl in
    let honest : IsTrue mid.honest = subst (λ (d : DeviceState). IsTrue d.honest) (sym same) c.requires.honest in
    record {
      directory = directory;
      described = c.in-Ok.ensures.described c.requires.honest;
      name = c.in_ok-name.ensures;
      file_count = c.count_files.ensures;
      standing = c.in_ok-standing.standing;
      stands =
          subst (λ (d : DeviceState). Stands meaning d c.in_ok-standing.standing) same
          (stands_before meaning mid new c.in_ok-standing.standing honest c.in_ok-content.ensures.reads c.in_ok-standing.ensures);
      lost = c.lost_in.ensures;
      free = c.free_count.ensures;
      content =
          subst (λ (d : DeviceState). IsContent (volume_in c.args.form files meaning directory d.store) d.unreadable c.in_ok-content.content) same
          c.in_ok-content.ensures.content;
    }
