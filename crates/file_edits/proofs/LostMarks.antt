-- The writes that mark lost places free, as they are prepared.
use Rattle.std.specs.Prelude.{◌≡◌, ◌<◌, ◌↔◌, ◌==◌, ◌&&◌, ◌++◌, not, ℕ, true, List, [], length, map, slice_index_or, All, Contains, Result, Ok, Err, IfErr, IsTrue}
use Rattle.std.specs.List.{list_any}
use Rattle.std.proofs.Common.{refl, sym, ◌∙◌, ap, subst}
use Rattle.std.proofs.lemmas.Bool.{eqb-true}
use Rattle.std.proofs.lemmas.List.Elements.{All-nil, All-filter, All-contains_itself}
use Rattle.a2_device.specs.Device.{DeviceState}
use Rattle.a2_device.specs.declared.part.Part.{Part}
use Rattle.vol_check.specs.Told.{Told, IsToldOf}
use Rattle.vol_format.specs.Directory.{Directory, is_free, map_place}
use Rattle.vol_format.specs.Laws.{IsDirectory}
use Rattle.vol_format.specs.Meaning.{Meaning}
use Rattle.vol_format.specs.Standing.{IsLost}
use Rattle.vol_format.proofs.Lists.{in_filter, out_of_filter}
use Rattle.vol_laws.specs.Markings.{Marking, marking_of, marking_write}
use Rattle.edit_formats.specs.declared.error.EditError.{EditError}
use Rattle.edit_formats.specs.declared.error.EditError.TheVariants.{Device}
use Rattle.edit_formats.specs.declared.writes.Prepared.{Prepared}
use Rattle.edit_formats.specs.Markings.{marked_in, AreMarked}
use Rattle.edit_formats.specs.Prepared.{write_of}
use Rattle.edit_formats.proofs.Deletions.{all_inside, all_sizes}
use Rattle.edit_formats.specs.lemmas.Numbers.{same_number}
use Rattle.edit_formats.proofs.MarkingWrites.{markings, markings_are, markings_rising, of_markings, marking_each, marking_some}
use Rattle.file_edits.specs.Reclaimed.{IsLostHere, IsReclaiming, IsReclaimRefusal}

-- the lost places are places of the volume
pub lost_below : (format : Meaning) (directory : Directory) (told : Told) → IsDirectory format directory → IsToldOf directory told
    → All (λ place. place < directory.places) told.lost
lost_below format directory told of is =
    subst (All (λ place. place < directory.places)) (sym is.lost)
    (All-filter (λ place. not (is_free directory place) && not (list_any (λ (part : Part). part.place == place) told.parts)) (λ place. place < directory.places) directory.available
    (λ i d within. ((of.available_of (slice_index_or directory.available i d)).0 (All-contains_itself directory.available i d within)).0))

pub device_refusal : {T : Type 0} (result : Result T EditError) → IfErr result (λ error. error ≡ Device) → IfErr result IsReclaimRefusal
device_refusal (Ok x) is = tt
device_refusal (Err error) is = subst IsReclaimRefusal (sym is) tt

module _ {A : Type 0} (format : Meaning) (directory : Directory) (lost : List ℕ) (old : DeviceState) (start writes : List (Prepared A)) (none : start ≡ [])
    (all : AreMarked format true directory lost old start writes) where
  pub lost_inside : directory.places ≡ old.places → All (λ (write : Prepared A). write.place < old.places) writes
  lost_inside same = all_inside format directory lost old start writes all old.places same
      (subst (All (λ (write : Prepared A). write.place < old.places)) (sym none) (All-nil (λ (write : Prepared A). write.place < old.places)))

  pub lost_sizes : All (λ (write : Prepared A). length write.unit.items ≡ old.unit_size) writes
  lost_sizes = all_sizes format directory lost old start writes all old.unit_size refl
      (subst (All (λ (write : Prepared A). length write.unit.items ≡ old.unit_size)) (sym none)
      (All-nil (λ (write : Prepared A). length write.unit.items ≡ old.unit_size)))

  module _ (honest : IsTrue old.honest) (are : (place : ℕ) → Contains lost place ↔ IsLost format directory old.store place) where
    own_at : (at place : ℕ) → Contains (marked_in directory at lost) place ↔ IsLostHere format directory old.store at place
    own_at at place = (
      λ has.
          let found = out_of_filter (λ p. map_place directory p == at) lost place has in
          record { lost = (are place).0 found.0; here = eqb-true (map_place directory place) at found.1 },
      λ is. in_filter (λ p. map_place directory p == at) lost place ((are place).1 is.lost) (same_number (map_place directory place) at is.here),
    )

    abbrev marks : List Marking
    marks = markings format true directory lost old start writes honest all

    own : (k : ℕ) → k < length marks → (place : ℕ) → Contains (marking_of marks k).places place ↔ IsLostHere format directory old.store (marking_of marks k).at place
    own = of_markings format true directory lost old start writes honest all
        (λ (m : Marking). (place : ℕ) → Contains m.places place ↔ IsLostHere format directory old.store m.at place)
        (λ i d within. own_at (slice_index_or all.1.marked i d).place)

    pub whole_reclaim : IsReclaiming format directory old.store (map write_of writes)
    whole_reclaim = record {
      markings = marks;
      are = markings_are format true directory lost old start writes honest all
          ∙ ap (λ (l : List (Prepared A)). map write_of l ++ map (marking_write format true old.store) marks) none;
      rising = markings_rising format true directory lost old start writes honest all;
      own = own;
      some = marking_some format true directory lost old start writes honest all;
      each = λ place is.
          let found = marking_each format true directory lost old start writes honest all place ((are place).1 is) in
          (found.0, found.1, sym ((own found.0 found.1 place).0 found.2).here);
    }
