use Rattle.std.proofs.Common.{◌≡◌, ◌∙◌, ℕ, List, IsTrue, ap, sym, subst, refl, map}
use Rattle.std.specs.Prelude.{IfOk}
use Rattle.a2_device.specs.Device.{DeviceState}
use Rattle.pro_dir.specs.declared.slot.NewFile.{NewFile}
use Rattle.pro_dir.specs.Writes.{entry_bytes, slot_offset, with_bytes}
use Rattle.edit_formats.specs.declared.counting.FileCount.TheVariants.{More}
use Rattle.edit_formats.specs.Counting.{counted_writes}
use Rattle.edit_formats.specs.Prepared.{write_of}
use Rattle.file_edits.specs.NewDirectory.{new_entry_bytes}
use Rattle.file_edits.proofs.directory_entering.directory_entry_writes.Goals as goal

pub returns-clause-enters : goal.returns-clause-enters
returns-clause-enters g c = λ honest.
    let placed = c.args.placed.now in
    let slot = placed.slot in
    let block = c.in_ok-block.ensures in
    let Enters : List (List ℕ) → List ℕ → Type 0 = λ store unit. IfOk c.counted_writes.result
    (λ writes. map write_of writes.items ≡ counted_writes More slot.place unit slot.directory store) in
    subst (Enters (g.D.Device.state c.args.device.now).store)
    (c.with_entry-unit.ensures.value
    ∙ ap (λ (entry : NewFile). with_bytes (slot_offset slot.number) (entry_bytes entry) c.in_ok-block.block.items) c.new_entry-entry.ensures
    ∙ ap (with_bytes (slot_offset slot.number) (new_entry_bytes placed.path.now slot placed.place placed.date)) (block.read honest))
    (subst (λ (d : DeviceState). Enters d.store c.with_entry-unit.result.items) (block.device.kept honest refl)
    (c.counted_writes.ensures.counted (subst IsTrue (sym block.device.same.honest) honest)))
