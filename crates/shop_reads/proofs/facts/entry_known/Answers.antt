use Rattle.std.proofs.Common.{◌≡◌, ap, List, ℕ, subst, sym}
use Rattle.std.specs.Prelude.{IsTrue}
use Rattle.a2_device.specs.Device.{DeviceState}
use Rattle.file_cmds.specs.ReadingOn.{FailedInFile}
use Rattle.file_cmds.specs.lemmas.Reading.{failed_in_file_before, failed_in_file_since}
use Rattle.volume_compare.specs.Contents.{volume_in}
use Rattle.shop_reads.specs.EntriesReply.{PartsAre, parts_found, wants_places}
use Rattle.shop_reads.proofs.FirstFiles.{together}
use Rattle.shop_reads.proofs.facts.entry_known.Goals as goal

pub returns-clause-known : goal.returns-clause-known
returns-clause-known g c = λ honest.
    let old = g.D.Device.state c.args.device.now in
    let mid = g.D.Device.state c.entry_facts.new.device in
    let new = g.D.Device.state c.entry_parts.new.device in
    let form = g.F.ShownFormat.form c.args.format.now in
    let files = g.F.FileFormat.files c.args.format.now in
    let meaning = g.F.Format.meaning c.args.format.now in
    let directory = g.F.Format.directory c.args.format.now c.args.volume.now in
    let first = c.in_ok-facts.ensures in
    let second = c.in_ok-parts.ensures in
    let wants = wants_places c.args.options in
    let found = parts_found wants c.in_ok-parts.parts in
    let same : mid.store ≡ old.store = ap (λ (device : DeviceState). device.store) (first.reads.kept honest) in
    together (volume_in form files meaning directory old.store) c.args.options c.args.file (FailedInFile meaning directory old mid)
    (FailedInFile meaning directory mid new) (FailedInFile meaning directory old new)
    (failed_in_file_before meaning directory old mid new c.args.file second.reads)
    (failed_in_file_since meaning directory old mid new c.args.file honest first.reads) c.in_ok-facts.facts found
    (first.facts honest)
    (subst (λ (store : List (List ℕ)). PartsAre wants (volume_in form files meaning directory store) (FailedInFile meaning directory mid new) c.args.file found) same
    (second.parts (subst IsTrue (sym first.reads.same.honest) honest)))
