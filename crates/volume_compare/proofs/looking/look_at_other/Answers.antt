use Rattle.std.proofs.Common.{ℕ, ap, ◌∙◌}
use Rattle.volume_compare.specs.Contents.{content_view}
use Rattle.volume_compare.specs.Findings.{compared_in}
use Rattle.volume_compare.specs.declared.finding.Finding.TheVariants.{Only}
use Rattle.volume_compare.specs.declared.finding.Found.{Found}
use Rattle.volume_compare.specs.declared.finding.Side.TheVariants.{Second}
use Rattle.volume_compare.proofs.Looks.{only_second, unreadable_alone}
use Rattle.volume_compare.proofs.looking.look_at_other.Goals as goal

pub returns-in-Some-clause-found : goal.returns-in-Some-clause-found
returns-in-Some-clause-found g c = λ first first_now honest.
    let compared = compared_in c.args.volumes.now.form (g.F.FileFormat.files c.args.volumes.now.format.now) (g.F.Format.meaning c.args.volumes.now.format.now)
    (g.F.Format.directory c.args.volumes.now.format.now c.args.volumes.now.first) (g.F.Format.directory c.args.volumes.now.format.now c.args.volumes.now.second)
    first first_now (g.E.Device.state c.args.second.now) (g.E.Device.state c.content_of.new.device) in
    let is_content = rw c.in-Some.is at (c.in_ok-content.ensures.content honest) in
    only_second compared c.args.other c.only_second.result (content_view c.in-Some.content) is_content
    (c.only_second.ensures ∙ ap {B = Found} (λ (bytes : ℕ). record { finding = Only Second; first_bytes = 0; second_bytes = bytes }) c.bytes.ensures)

pub returns-in-None-clause-found : goal.returns-in-None-clause-found
returns-in-None-clause-found g c = λ first first_now honest.
    let compared = compared_in c.args.volumes.now.form (g.F.FileFormat.files c.args.volumes.now.format.now) (g.F.Format.meaning c.args.volumes.now.format.now)
    (g.F.Format.directory c.args.volumes.now.format.now c.args.volumes.now.first) (g.F.Format.directory c.args.volumes.now.format.now c.args.volumes.now.second)
    first first_now (g.E.Device.state c.args.second.now) (g.E.Device.state c.content_of.new.device) in
    let unread = rw c.in-None.is at (c.in_ok-content.ensures.content honest) in
    unreadable_alone compared c.args.other c.unreadable.result unread c.unreadable.ensures
