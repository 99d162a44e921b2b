use Rattle.std.proofs.Common.{◌≡◌, ◌<◌, ◌∙◌, ap, sym, subst, refl, map, length, arith, IsTrue}
use Rattle.std.specs.Prelude.{All, IfOk, slice_get}
use Rattle.a2_device.specs.Device.{DeviceState}
use Rattle.pro_dir.specs.Listed.{directory_of}
use Rattle.pro_dir.specs.Volume.{Directory as Tree}
use Rattle.pro_dir.specs.lemmas.VolumeLaws.{one_directory}
use Rattle.pro_format.proofs.EntryNumbers.{number_inside}
use Rattle.pro_format.specs.Pro.{directory_with}
use Rattle.pro_format.specs.ProVolume.{tree_of, map_in, system_of}
use Rattle.edit_formats.specs.declared.error.EditError.TheVariants.{Check}
use Rattle.edit_formats.specs.declared.writes.Prepared.{Prepared}
use Rattle.edit_formats.specs.Prepared.{write_of}
use Rattle.edit_formats.specs.ProErasing.{pro_erasing}
use Rattle.edit_formats.proofs.ErasedEntries.{erases-pro, has_entry, in_slot, no_fault, own_directory}
use Rattle.edit_formats.proofs.pro_edits.ProdosEditableFormat.erase.Goals as goal

pub returns-in-Err-clause-described : goal.returns-in-Err-clause-described
returns-in-Err-clause-described g c = λ honest described same.
    let is : c.refusal.result ≡ Check = cc in
    no_fault (g.D.Device.state c.args.device.now).store described.tree c.in-Err.error c.refusal.result described.described (c.in-Err.ensures.refused honest) c.refusal.ensures is

pub erase_entry-requires-clause-place : goal.erase_entry-requires-clause-place
erase_entry-requires-clause-place g c =
    let entry = c.in-Some.entry in
    let slot = in_slot (g.D.Device.state c.args.device.now).places (directory_of c.in-Ok.walked) c.args.file entry c.in-Ok.ensures.within
    (ap (λ entries. slice_get entries c.args.file) (sym c.entries.ensures) ∙ sym c.entry_of.ensures ∙ c.in-Some.is) in
    subst (λ n. entry.place < n) (sym c.in-Ok.ensures.device.same.places) slot.place

pub erase_entry-requires-clause-slot : goal.erase_entry-requires-clause-slot
erase_entry-requires-clause-slot g c =
    (in_slot (g.D.Device.state c.args.device.now).places (directory_of c.in-Ok.walked) c.args.file c.in-Some.entry c.in-Ok.ensures.within
    (ap (λ entries. slice_get entries c.args.file) (sym c.entries.ensures) ∙ sym c.entry_of.ensures ∙ c.in-Some.is)).slot

pub returns-in-Some-clause-inside : goal.returns-in-Some-clause-inside
returns-in-Some-clause-inside g c =
    subst (λ n. IfOk c.erase_entry.result (λ writes. All (λ (write : Prepared g.row.B.Denot). write.place < n) writes.items)) c.in-Ok.ensures.device.same.places
    c.erase_entry.ensures.inside

pub returns-in-Some-clause-sizes : goal.returns-in-Some-clause-sizes
returns-in-Some-clause-sizes g c =
    subst (λ n. IfOk c.erase_entry.result (λ writes. All (λ (write : Prepared g.row.B.Denot). length write.unit.items ≡ n) writes.items)) c.in-Ok.ensures.device.same.unit_size
    c.erase_entry.ensures.sizes

pub returns-in-Some-clause-erases : goal.returns-in-Some-clause-erases
returns-in-Some-clause-erases g c = λ honest described.
    let old = g.D.Device.state c.args.device.now in
    let reads = c.in-Ok.ensures.device in
    let entry = c.in-Some.entry in
    erases-pro old.store (directory_of c.in-Ok.walked) c.args.file entry c.erase_entry.result (λ writes. map write_of writes.items) (c.in-Ok.ensures.described honest)
    (ap (λ entries. slice_get entries c.args.file) (sym c.entries.ensures) ∙ sym c.entry_of.ensures ∙ c.in-Some.is)
    (subst (λ (d : DeviceState). IfOk c.erase_entry.result (λ writes. map write_of writes.items ≡ pro_erasing entry d.store)) (reads.kept honest refl)
    (c.erase_entry.ensures.erases (subst IsTrue (sym reads.same.honest) honest)))

pub returns-in-Some-clause-described : goal.returns-in-Some-clause-described
returns-in-Some-clause-described g c = λ honest described.
    let reads = c.in-Ok.ensures.device in
    let whole = g.met.D.Device.whole c.args.device.now honest in
    let below = own_directory (g.D.Device.state c.args.device.now).store (directory_of c.in-Ok.walked) c.args.file c.in-Some.entry (c.in-Ok.ensures.described honest)
    (ap (λ entries. slice_get entries c.args.file) (sym c.entries.ensures) ∙ sym c.entry_of.ensures ∙ c.in-Some.is) in
    c.erase_entry.ensures.known (omega (arith, below, whole.all, reads.same.places))

pub returns-clause-described : goal.returns-clause-described
returns-clause-described g c = λ honest described same.
    let v = c.args.arg4.now in
    let store = (g.D.Device.state c.args.device.now).store in
    let inside = number_inside c.args.self.now store (directory_with (system_of v) (tree_of v) (map_in v).units) described c.args.file c.requires.file in
    has_entry (directory_of c.in-Ok.walked).entries c.args.file
    (subst (λ (t : Tree). c.args.file < length t.entries) (sym (one_directory store described.tree (directory_of c.in-Ok.walked) described.described (c.in-Ok.ensures.described honest))) inside)
    (ap (λ entries. slice_get entries c.args.file) (sym c.entries.ensures) ∙ sym c.entry_of.ensures ∙ c.in-None.is)
