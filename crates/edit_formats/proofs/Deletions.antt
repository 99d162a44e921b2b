-- The writes that delete the file of an entry, as they are prepared.
use Rattle.std.specs.Prelude.{◌≡◌, ◌<◌, ◌==◌, ℕ, true, false, List, length, map, filter, slice_index_or, All, Contains, Result, Ok, Err, IfOk, IfErr, IsTrue}
use Rattle.std.proofs.Common.{sym, ◌∙◌, subst, arith}
use Rattle.std.proofs.lemmas.Bool.{eqb-true}
use Rattle.std.proofs.lemmas.List.Elements.{All-map, All-filter, All-append, All-contains_itself}
use Rattle.a2_device.specs.Device.{DeviceState, IsWhole}
use Rattle.a2_device.specs.declared.part.Part.{Part}
use Rattle.vol_format.specs.Accepted.{IsAccepted}
use Rattle.vol_format.specs.Directory.{Directory, entries, entry_of, is_directory}
use Rattle.vol_format.specs.Laws.{IsReadable, IsMovable}
use Rattle.vol_format.specs.Meaning.{Meaning}
use Rattle.vol_format.specs.Reach.{IsPartsOf}
use Rattle.vol_check.specs.Told.{Told, IsToldOf}
use Rattle.vol_format.proofs.Lists.{in_filter, out_of_filter, in_map, out_of_map}
use Rattle.vol_laws.proofs.EntryNumbers.{parts_of_number}
use Rattle.vol_laws.specs.Deletion.{IsDeletion}
use Rattle.edit_formats.specs.declared.writes.Prepared.{Prepared}
use Rattle.edit_formats.specs.Prepared.{write_of}
use Rattle.file_formats.specs.FileNames.{FileNameView}
use Rattle.file_formats.specs.Files.{FileMeaning}
use Rattle.edit_formats.specs.declared.error.EditError.{EditError}
use Rattle.edit_formats.specs.declared.error.EditError.TheVariants.{Device}
use Rattle.edit_formats.specs.Deleted.{HasFirstUnprotected, HasPlacesOf, IsDeleteRefusal, IsDeleteTold, places_of_file}
use Rattle.edit_formats.specs.Erasing.{EraseMeaning, HasWholeUnits, IsErasable}
use Rattle.edit_formats.specs.Markings.{AreMarked}
use Rattle.edit_formats.specs.lemmas.Numbers.{same_number}
use Rattle.edit_formats.proofs.WholeDelete.{whole_delete}

-- what follows of a value that is told
pub if_ok : {T E : Type 0} (result : Result T E) (P Q : T → Type 0) → ((value : T) → P value → Q value) → IfOk result P → IfOk result Q
if_ok (Ok value) P Q follows is = follows value is
if_ok (Err error) P Q follows is = tt

pub told_below : (directory : Directory) (told : Told) → IsToldOf directory told → All (λ (part : Part). part.place < directory.places) told.parts
told_below directory told is = λ i d within. is.places (slice_index_or told.parts i d) (All-contains_itself told.parts i d within)

-- where a write failed, or none did
module _ {T : Type 0} (result : Result T EditError) where
  pub device_refusal : IfErr result (λ error. error ≡ Device) → IfErr result IsDeleteRefusal
  device_refusal = by_result result
    where
      by_result : (r : Result T EditError) → IfErr r (λ error. error ≡ Device) → IfErr r IsDeleteRefusal
      by_result (Ok x) is = tt
      by_result (Err error) is = subst IsDeleteRefusal (sym is) tt

  pub device_told : (format : Meaning) (files : FileMeaning) (erasures : EraseMeaning) (store : List (List ℕ)) (name : FileNameView) → IfErr result (λ error. error ≡ Device)
      → HasFirstUnprotected format files erasures store name → IsDeleteTold format files erasures store name result
  device_told format files erasures store name refused first = by_result result refused
    where
      by_result : (r : Result T EditError) → IfErr r (λ error. error ≡ Device) → IsDeleteTold format files erasures store name r
      by_result (Ok x) is = first
      by_result (Err error) is = subst (λ (e : EditError). IsDeleteTold {T = T} format files erasures store name (Err e)) (sym is) tt

-- the places of a file, from the parts of the volume
module _ (directory : Directory) (file : ℕ) (parts : List Part) where
  pub own_below : All (λ (part : Part). part.place < directory.places) parts → All (λ place. place < directory.places) (places_of_file file parts)
  own_below below =
      All-map (λ place. place < directory.places) (λ (part : Part). part.place) (filter (λ (part : Part). part.file == file) parts)
      (All-filter (λ (part : Part). part.file == file) (λ (part : Part). part.place < directory.places) parts below)

  pub own_places : (format : Meaning) (laws : IsReadable format) (movable : IsMovable format) (store : List (List ℕ)) → format.Describes store directory → file < entries directory
      → IsPartsOf format directory store parts → All (λ (part : Part). part.place < directory.places) parts
      → HasPlacesOf format directory file store (places_of_file file parts)
  own_places format laws movable store described inside are below =
      let is_own = λ (part : Part). part.file == file in
      let place_of = λ (part : Part). part.place in
      record {
        inside = own_below below;
        are = λ place. (
          λ has.
              let found = out_of_map place_of (filter is_own parts) place has in
              let passed = out_of_filter is_own parts found.0 found.1 in
              let reached = (are.members found.0).0 passed.0 in
              (found.0, (parts_of_number format laws movable directory store file found.0 described inside).1 (reached, eqb-true found.0.file file passed.1), found.2),
          λ taken.
              let reached = (parts_of_number format laws movable directory store file taken.0 described inside).0 taken.1 in
              subst (Contains (places_of_file file parts)) taken.2
              (in_map place_of (filter is_own parts) taken.0 (in_filter is_own parts taken.0 ((are.members taken.0).1 reached.0) (same_number taken.0.file file reached.1))),
        );
      }

-- what is true of all that erase and of all that release is true of both
module _ {A : Type 0} (format : Meaning) (directory : Directory) (places : List ℕ) (old : DeviceState) (start writes : List (Prepared A))
    (all : AreMarked format true directory places old start writes) where
  pub all_inside : (n : ℕ) → directory.places ≡ n → All (λ (write : Prepared A). write.place < n) start → All (λ (write : Prepared A). write.place < n) writes
  all_inside n same below = subst (All (λ (write : Prepared A). write.place < n)) (sym all.1.are)
      (All-append (λ (write : Prepared A). write.place < n) start all.1.marked below (λ i d within. omega (arith, same, all.1.inside i d within)))

  pub all_sizes : (n : ℕ) → old.unit_size ≡ n → All (λ (write : Prepared A). length write.unit.items ≡ n) start → All (λ (write : Prepared A). length write.unit.items ≡ n) writes
  all_sizes n same sizes = subst (All (λ (write : Prepared A). length write.unit.items ≡ n)) (sym all.1.are)
      (All-append (λ (write : Prepared A). length write.unit.items ≡ n) start all.1.marked sizes (λ i d within. all.1.sizes i d within ∙ same))

pub whole_units : (format : Meaning) (device : DeviceState) → IsWhole device → device.unit_size ≡ format.unit_size → HasWholeUnits format device.store
whole_units format device whole size = λ place below. whole.units place (omega (arith, below, whole.all)) ∙ size

-- the writes that erase the entry, and those that mark its places free behind them
pub made_deletion : {A : Type 0} (format : Meaning) (laws : IsReadable format) (movable : IsMovable format) (erasures : EraseMeaning) (erasable : IsErasable format erasures)
    (directory : Directory) (file : ℕ) (parts : List Part) (old : DeviceState) (start writes : List (Prepared A))
    → IsTrue old.honest → IsWhole old → old.unit_size ≡ format.unit_size → IsAccepted format directory old.store
    → file < entries directory → is_directory (entry_of directory file) ≡ false
    → IsPartsOf format directory old.store parts → All (λ (part : Part). part.place < directory.places) parts
    → erasures.Erases old.store directory file (map write_of start) → AreMarked format true directory (places_of_file file parts) old start writes
    → (deletion : IsDeletion format directory file old.store (map write_of writes)) × erasures.Erases old.store directory file deletion.system
made_deletion format laws movable erasures erasable directory file parts old start writes honest whole size accepted inside is_file are below erases all =
    let erasing = erasable.erasing old.store directory file (map write_of start) accepted.described inside is_file (whole_units format old whole size) erases in
    let own = own_places directory file parts format laws movable old.store accepted.described inside are below in
    let made = whole_delete format laws directory file (places_of_file file parts) old start writes honest erasing all own in
    (made.0, subst (erasures.Erases old.store directory file) (sym made.1) erases)
