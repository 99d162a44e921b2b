use Rattle.std.proofs.Common.{◌≡◌, ◌<◌, ◌∙◌, refl, ap, Err, map, length, subst, IsTrue}
use Rattle.std.specs.Prelude.{All, IfOk}
use Rattle.a2_device.specs.Device.{DeviceState}
use Rattle.a2_device.specs.Reading.{then_reads}
use Rattle.vol_format.specs.Accepted.{IsAccepted}
use Rattle.pro_format.specs.Pro.{pro_meaning}
use Rattle.edit_formats.specs.declared.writes.Prepared.{Prepared}
use Rattle.edit_formats.specs.Prepared.{write_of}
use Rattle.edit_formats.specs.Refusal.{told_device}
use Rattle.edit_formats.proofs.Deletions.{if_ok}
use Rattle.edit_formats.specs.declared.target.Target.TheVariants.{At}
use Rattle.edit_formats.specs.ProSaves.{IsProTarget}
use Rattle.file_edits.specs.Fitting.{AreWritesFor}
use Rattle.file_edits.specs.Making.{making}
use Rattle.file_edits.specs.Made.{IsMaking, IsTold}
use Rattle.file_edits.specs.DirectorySlots.{IsPlaceRefusal}
use Rattle.file_edits.specs.Preparing.{read_directory}
use Rattle.file_edits.proofs.Refusals.{error_in, if_err, place_told, slot_told}
use Rattle.file_edits.proofs.preparing.prepare_directory.Goals as goal

pub returns-in-Err-clause-told : goal.returns-in-Err-clause-told
returns-in-Err-clause-told g c = λ honest accepted.
    let directory = read_directory c.args.volume.now in
    slot_told (making c.args.format.now (g.D.Device.state c.args.device.now).store c.args.path.now c.args.date) directory accepted c.in-Err.error
    c.in-Err.ensures.refused (c.in-Err.ensures.told directory honest accepted.described)

pub returns-in-Err-clause-described : goal.returns-in-Err-clause-described
returns-in-Err-clause-described g c = λ honest described same.
    c.in-Err.ensures.described (read_directory c.args.volume.now) honest described (ap Err (ap error_in same))

pub returns-in-Ok-clause-device : goal.returns-in-Ok-clause-device
returns-in-Ok-clause-device g c =
    then_reads (told_device c.directory_writes_at.result) (g.D.Device.state c.args.device.now) (g.D.Device.state c.free_directory_slot.new.device) (g.D.Device.state c.directory_writes_at.new.device)
    c.in-Ok.ensures.device c.directory_writes_at.ensures.device

pub returns-in-Ok-clause-fit : goal.returns-in-Ok-clause-fit
returns-in-Ok-clause-fit g c =
    let old = g.D.Device.state c.args.device.now in
    let mid = g.D.Device.state c.free_directory_slot.new.device in
    if_ok c.directory_writes_at.result (λ writes. AreWritesFor mid writes.items) (λ writes. AreWritesFor old writes.items)
    (λ writes fit. record {
      inside = subst (λ k. All (λ (write : Prepared g.row.A.Denot). write.place < k) writes.items) c.in-Ok.ensures.device.same.places fit.inside;
      sizes = subst (λ k. All (λ (write : Prepared g.row.A.Denot). length write.unit.items ≡ k) writes.items) c.in-Ok.ensures.device.same.unit_size fit.sizes;
    })
    c.directory_writes_at.ensures.fit

pub returns-in-Ok-clause-made : goal.returns-in-Ok-clause-made
returns-in-Ok-clause-made g c = λ honest accepted.
    let format = c.args.format.now in
    let directory = read_directory c.args.volume.now in
    subst
    (λ (d : DeviceState). IsTrue d.honest → IsAccepted (pro_meaning format) directory d.store → IsProTarget d.store c.args.path.now (At c.in-Ok.slot)
    → IfOk c.directory_writes_at.result (λ writes. IsMaking (making format d.store c.args.path.now c.args.date) (map write_of writes.items)))
    (c.in-Ok.ensures.device.kept honest refl) c.directory_writes_at.ensures.made honest accepted (c.in-Ok.ensures.told directory honest accepted.described)

pub returns-in-Ok-clause-told : goal.returns-in-Ok-clause-told
returns-in-Ok-clause-told g c = λ honest accepted.
    let directory = read_directory c.args.volume.now in
    let made = making c.args.format.now (g.D.Device.state c.args.device.now).store c.args.path.now c.args.date in
    if_err c.directory_writes_at.result IsPlaceRefusal (IsTold made)
    (λ error is refused. place_told made directory accepted c.in-Ok.slot (c.in-Ok.ensures.told directory honest accepted.described) error refused
    (λ full. c.directory_writes_at.ensures.full (is ∙ ap Err full)))
    c.directory_writes_at.ensures.refused
