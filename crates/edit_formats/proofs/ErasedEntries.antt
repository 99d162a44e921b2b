-- What is written where the entry that was read is erased.
use Rattle.std.proofs.Common.{◌≡◌, ◌≢◌, ◌<◌, ◌∙◌, ℕ, Bool, List, [], ◌∷◌, ◌++◌, length, get_or, refl, sym, ap, subst}
use Rattle.std.specs.Prelude.{All, Result, Ok, Err, IfOk, Some, None, slice_get}
use Rattle.std.proofs.lemmas.List.Elements.{All-nil, All-cons, All-append}
use Rattle.std.proofs.lemmas.Option.{slice_get_within, slice_get-get_or, get_or_from_slice_get}
use Rattle.a2_device.specs.Device.{unit_at}
use Rattle.dos_catalog.specs.declared.entry.Entry.{Entry as CatalogEntry}
use Rattle.dos_catalog.specs.Writes.{erased}
use Rattle.pro_dir.specs.declared.entry.Entry.{Entry}
use Rattle.pro_dir.specs.Within.{IsInSlot, IsWithin}
use Rattle.pro_dir.specs.Volume.{Directory as Tree, Describes, VolumeFaultAt}
use Rattle.vol_format.specs.Directory.{Listed, entries}
use Rattle.dos_format.specs.Dos.{dos_directory}
use Rattle.pro_format.specs.Pro.{no_slot}
use Rattle.pro_format.proofs.EntrySlots.{each_slot_of}
use Rattle.vol_laws.specs.Writes.{Write}
use Rattle.file_formats.proofs.DosEntries.{entry_read}
use Rattle.a2_device.specs.declared.fault.Fault.{Fault}
use Rattle.a2_device.specs.declared.fault.WalkError.{WalkError}
use Rattle.a2_device.specs.declared.fault.WalkError.TheVariants as walk
use Rattle.edit_formats.specs.declared.error.EditError.{EditError}
use Rattle.edit_formats.specs.declared.error.EditError.TheVariants.{Check}
use Rattle.edit_formats.specs.DosErasing.{dos_erasing}
use Rattle.edit_formats.specs.ProErasing.{ErasesEntry, pro_erasing}
use Rattle.edit_formats.specs.Renamed.{refusal_of_walk}

-- what is true of the one element of a list
pub all_of_one : {X : Type 0} (P : X → Type 0) (xs : List X) (x : X) → xs ≡ x ∷ [] → P x → All P xs
all_of_one P xs x is holds = subst (All P) (sym is) (All-cons P x [] holds (All-nil P))

pub all_of_two : {X : Type 0} (P : X → Type 0) (xs front : List X) (x y : X) → front ≡ x ∷ [] → xs ≡ front ++ y ∷ [] → P x → P y → All P xs
all_of_two P xs front x y front_is is first second = subst (All P) (sym is) (All-append P front (y ∷ []) (all_of_one P front x front_is first) (All-cons P y [] second (All-nil P)))

abbrev write_at : ℕ → List ℕ → List Write
write_at place unit = record { place = place; unit = unit } ∷ []

-- an entry of the catalog
pub erasing-dos : (data_disk : Bool) (reserved : List Bool) (vtoc : List ℕ) (all shown : List CatalogEntry) (is : shown ≡ all) (file : ℕ) (e : CatalogEntry)
    (inside : file < entries (dos_directory data_disk reserved vtoc all)) (store : List (List ℕ)) (unit new : List ℕ)
    → unit ≡ unit_at store (get_or shown file e).place → new ≡ erased (get_or shown file e).slot unit
    → ◌≡◌ {A = List Write} (record { place = (get_or shown file e).place; unit = new } ∷ []) (dos_erasing (dos_directory data_disk reserved vtoc all) file store)
erasing-dos data_disk reserved vtoc all shown is file e inside store unit new unit_is new_is =
    ap (λ (u : List ℕ). write_at (get_or shown file e).place u) (new_is ∙ ap (erased (get_or shown file e).slot) unit_is)
    ∙ ap (λ (entry : Listed). write_at entry.place (erased entry.slot (unit_at store entry.place))) (sym (entry_read data_disk reserved vtoc all shown file e is inside))

-- an entry of directories that were walked over is in a slot, whatever the device tells
pub in_slot : (places : ℕ) (tree : Tree) (file : ℕ) (entry : Entry) → IsWithin places tree → slice_get tree.entries file ≡ Some entry
    → IsInSlot places entry
in_slot places tree file entry within at =
    subst (IsInSlot places) (get_or_from_slice_get tree.entries file entry no_slot at) (within.entries file no_slot (slice_get_within tree.entries file entry at))

-- the key block of the directory in which an entry stands is a block of the volume
pub own_directory : (store : List (List ℕ)) (tree : Tree) (file : ℕ) (entry : Entry) → Describes store tree → slice_get tree.entries file ≡ Some entry
    → entry.directory < length store
own_directory store tree file entry described at =
    subst (λ (e : Entry). e.directory < length store) (get_or_from_slice_get tree.entries file entry no_slot at)
    (each_slot_of store tree.blocks tree.entries described.tree file no_slot (slice_get_within tree.entries file entry at)).is.run.can_link.1

pub has_entry : (entries : List Entry) (file : ℕ) → file < length entries → slice_get entries file ≡ None → ⊥
has_entry entries file inside none = let some = slice_get-get_or entries file no_slot inside in cc

-- a walk over directories that are there tells no fault
pub no_fault : (store : List (List ℕ)) (tree : Tree) (error : WalkError) (refusal : EditError) → Describes store tree
    → ((fault : Fault) → error ≡ walk.Fault fault → VolumeFaultAt store fault × ((other : Tree) → ¬ Describes store other))
    → refusal ≡ refusal_of_walk error → refusal ≢ Check
no_fault store tree (walk.Fault fault) refusal described refused is same = (refused fault refl).1 tree described
no_fault store tree walk.Device refusal described refused is same = absurd (cc)
no_fault store tree walk.Memory refusal described refused is same = absurd (cc)

-- the entry that the walk has under its number
pub erases-pro : {T : Type 0} (store : List (List ℕ)) (tree : Tree) (file : ℕ) (entry : Entry) (result : Result T EditError) (writes_of : T → List Write)
    → Describes store tree → slice_get tree.entries file ≡ Some entry
    → IfOk result (λ made. writes_of made ≡ pro_erasing entry store) → IfOk result (λ made. ErasesEntry store file (writes_of made))
erases-pro store tree file entry (Ok made) writes_of described at is = record {
  tree = tree;
  described = described;
  inside = slice_get_within tree.entries file entry at;
  are = is ∙ ap (λ (e : Entry). pro_erasing e store) (sym (get_or_from_slice_get tree.entries file entry no_slot at));
}
erases-pro store tree file entry (Err error) writes_of described at is = tt
