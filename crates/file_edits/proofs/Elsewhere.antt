-- The units of the system once parts stand at new places and these are marked.
use Rattle.std.specs.Prelude.{◌≡◌, ◌⊎◌, ◌<◌, ℕ, suc, true, false, List, [], ◌∷◌, length, map, slice_set, All}
use Rattle.std.proofs.Common.{refl, sym, ◌∙◌, ap, arith, inl, inr}
use Rattle.std.proofs.lemmas.Bool.{cases_eq}
use Rattle.std.proofs.lemmas.List.{get_or-set_other, get_or-set_same, length-set}
use Rattle.a2_device.specs.Device.{unit_at}
use Rattle.vol_format.specs.Directory.{Directory, is_system, map_place}
use Rattle.vol_format.specs.Meaning.{Meaning}
use Rattle.vol_laws.specs.Marked.{with_marks}
use Rattle.vol_laws.specs.Markings.{Marking, marking_of, mark_as, marking_write}
use Rattle.vol_laws.specs.Writes.{Write, store_after}
use Rattle.vol_laws.proofs.Fronts.{unit_after}
use Rattle.edit_formats.specs.Saves.{IsElsewhere}

pub same_length : (writes : List Write) (store : List (List ℕ)) → length (store_after writes store) ≡ length store
same_length [] store = refl
same_length (write ∷ writes) store = same_length writes (slice_set store write.place write.unit) ∙ length-set store write.place write.unit

module _ (format : Meaning) (store : List (List ℕ)) where
  abbrev write_to : Marking → Write
  write_to marking = marking_write format false store marking

  -- of a unit either nothing is written, or what one of the markings writes
  abbrev IsWritten : List Marking → List (List ℕ) → ℕ → Type 0
  IsWritten markings now place =
      (k : ℕ) × (k < length markings) × ((marking_of markings k).at ≡ place) × (unit_at now place ≡ (write_to (marking_of markings k)).unit)

  marked_or_kept : (markings : List Marking) (units : List (List ℕ)) (place : ℕ) → ((k : ℕ) → k < length markings → (marking_of markings k).at < length units)
      → (unit_at (store_after (map write_to markings) units) place ≡ unit_at units place) ⊎ IsWritten markings (store_after (map write_to markings) units) place
  marked_or_kept [] units place below = inl refl
  marked_or_kept (marking ∷ markings) units place below =
      let next = slice_set units marking.at (write_to marking).unit in
      elim (marked_or_kept markings next place (λ k within. omega (arith, below (suc k) (omega (arith, within)), length-set units marking.at (write_to marking).unit))) [
        | inl same ↦ elim (cases_eq marking.at place) [
          | inl here ↦ inr (0, omega arith, here, same ∙ ap (unit_at next) (sym here) ∙ get_or-set_same units marking.at (write_to marking).unit _ (below 0 (omega arith)))
          | inr apart ↦ inl (same ∙ get_or-set_other units marking.at place (write_to marking).unit _ (λ is. apart (sym is)))
        ]
        | inr is ↦ inr (suc is.0, omega (arith, is.1), is.2, is.3)
      ]

-- the parts stand outside the system, and each marking is of places that have their marks in its unit
pub elsewhere : (format : Meaning) (directory : Directory) (store : List (List ℕ)) (starts : List Write) (markings : List Marking)
    → All (λ (write : Write). is_system directory write.place ≡ false) starts
    → ((k : ℕ) → k < length markings → (place : ℕ) × (place < directory.places) × (map_place directory place ≡ (marking_of markings k).at))
    → ((k : ℕ) → k < length markings → (marking_of markings k).at < length store)
    → IsElsewhere format directory store (store_after (map (marking_write format false store) markings) (store_after starts store))
elsewhere format directory store starts markings outside marks below = record {
  size = same_length (map (marking_write format false store) markings) units ∙ same_length starts store;
  system = λ place is. elim (marked_or_kept format store markings units place (λ k within. omega (arith, below k within, same_length starts store))) [
    | inl same ↦ inl (same ∙ unit_after starts store place (λ i d within at. both (ap (is_system directory) (sym at) ∙ outside i d within) is))
    | inr written ↦
        let k = written.0 in
        let mark = marks k written.1 in
        inr (record {
          marked = mark.0;
          inside = mark.1;
          here = mark.2 ∙ written.2;
          marks = map (mark_as false) (marking_of markings k).places;
          is = written.3 ∙ ap (λ n. with_marks format (unit_at store n) (map (mark_as false) (marking_of markings k).places)) written.2;
        })
  ];
}
  where
    units : List (List ℕ)
    units = store_after starts store

    both : {X : Type 0} {b : _} → b ≡ false → b ≡ true → X
    both e e' = absurd (cc)
