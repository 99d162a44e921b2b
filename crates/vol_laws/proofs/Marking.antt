-- Units of the map, one after another, in which places are marked free, or used.
use Rattle.std.specs.Prelude.{◌≡◌, ◌≢◌, ◌⊎◌, ◌<◌, ℕ, Bool, zero, suc, List, [], ◌∷◌, ◌++◌, length, map, take, slice_set, slice_index_or, All, Contains}
use Rattle.std.proofs.Common.{refl, sym, ◌∙◌, ap, subst, arith, inl, inr}
use Rattle.std.proofs.lemmas.Bool.{cases_eq}
use Rattle.std.proofs.lemmas.List.{get_or-set_other}
use Rattle.std.proofs.lemmas.List.Elements.{All-nil, All-cons, All-append, All-map, Contains-append_left, Contains-append_right}
use Rattle.a2_device.specs.Device.{unit_at}
use Rattle.vol_format.specs.Accepted.{IsAccepted}
use Rattle.vol_format.specs.Directory.{Directory, map_place, remapped}
use Rattle.vol_format.specs.Laws.{IsReadable, IsMovable, IsWritable}
use Rattle.vol_format.specs.Meaning.{Meaning}
use Rattle.vol_format.proofs.Frames.{same_places}
use Rattle.vol_laws.specs.Kept.{IsKept}
use Rattle.vol_laws.specs.Marked.{CanMark, with_marks, marked}
use Rattle.vol_laws.specs.declared.mark.Mark.{Mark}
use Rattle.vol_laws.proofs.Kept.{kept_same, kept_then}
use Rattle.vol_laws.proofs.Marks.{marks_kept, still}
use Rattle.vol_laws.specs.Markings.{Marking, marking_of, mark_as, marking_write, all_marks}
use Rattle.vol_laws.specs.Writes.{store_after}

marked_both : (marks then : List Mark) (directory : Directory) → marked directory (marks ++ then) ≡ marked (marked directory marks) then
marked_both [] then directory = refl
marked_both (mark ∷ marks) then directory = marked_both marks then (remapped directory mark.place mark.free)

-- what is true of each place of the units, of the first so many
pub all_of_marks : (free : Bool) (P : Mark → Type 0) (markings : List Marking) (m : ℕ)
    → ((k : ℕ) → k < length markings → All (λ place. P (mark_as free place)) (marking_of markings k).places) → All P (all_marks free (take m markings))
all_of_marks free P [] zero each = All-nil P
all_of_marks free P [] (suc m) each = All-nil P
all_of_marks free P (marking ∷ markings) zero each = All-nil P
all_of_marks free P (marking ∷ markings) (suc m) each =
    All-append P (map (mark_as free) marking.places) (all_marks free (take m markings)) (All-map P (mark_as free) marking.places (each 0 (omega arith)))
    (all_of_marks free P markings m (λ k inside. each (suc k) (omega (arith, inside))))

contains_mark : (free : Bool) (places : List ℕ) (place : ℕ) → Contains places place → Contains (map (mark_as free) places) (mark_as free place)
contains_mark free [] place (i, within, is) = absurd (omega (arith, within))
contains_mark free (first ∷ places) place (zero, within, is) = (zero, omega arith, ap (mark_as free) is)
contains_mark free (first ∷ places) place (suc i, within, is) =
    let has = contains_mark free places place (i, omega (arith, within), is) in
    (suc has.0, omega (arith, has.1), has.2)

pub mark_of_place : (free : Bool) (markings : List Marking) (k place : ℕ) → k < length markings → Contains (marking_of markings k).places place
    → Contains (all_marks free markings) (mark_as free place)
mark_of_place free [] k place inside has = absurd (omega (arith, inside))
mark_of_place free (marking ∷ markings) zero place inside has =
    Contains-append_left (map (mark_as free) marking.places) (all_marks free markings) (mark_as free place) (contains_mark free marking.places place has)
mark_of_place free (marking ∷ markings) (suc k) place inside has =
    Contains-append_right (map (mark_as free) marking.places) (all_marks free markings) (mark_as free place) (mark_of_place free markings k place (omega (arith, inside)) has)

-- a place is marked, or no mark is its own
pub marked_or_not : (marks : List Mark) (place : ℕ)
    → ((mark : Mark) × Contains marks mark × (mark.place ≡ place)) ⊎ All (λ (mark : Mark). mark.place ≢ place) marks
marked_or_not [] place = inr (All-nil (λ (mark : Mark). mark.place ≢ place))
marked_or_not (first ∷ marks) place = elim (cases_eq first.place place) [
  | inl same ↦ inl (first, (0, omega arith, refl), same)
  | inr differ ↦ elim (marked_or_not marks place) [
    | inl has ↦ inl (has.0, (suc has.1.0, omega (arith, has.1.1), has.1.2), has.2)
    | inr none ↦ inr (All-cons (λ (mark : Mark). mark.place ≢ place) first marks differ none)
  ]
]

-- a unit of the map that has not been written yet, and marks that can be made in it
pub record CanMarkIn (format : Meaning) (free : Bool) (before : Directory) (old new : List (List ℕ)) (marking : Marking) : Type 0 where
  pub inside : marking.at < length old
  pub same : unit_at new marking.at ≡ unit_at old marking.at
  pub marks : All (CanMark format before new marking.at) (map (mark_as free) marking.places)

module _ (format : Meaning) (laws : IsReadable format) (movable : IsMovable format) (writable : IsWritable format) (free : Bool) (old : List (List ℕ))
    (full : (place : ℕ) → place < length old → length (unit_at old place) ≡ format.unit_size) where
  -- one unit written
  one_marked : (marking : Marking) (before : Directory) (new : List (List ℕ)) → IsAccepted format before new → CanMarkIn format free before old new marking
      → IsKept format before (marked before (map (mark_as free) marking.places)) new
      (slice_set new marking.at (with_marks format (unit_at old marking.at) (map (mark_as free) marking.places)))
  one_marked marking before new accepted can =
      subst (λ (u : List ℕ). IsKept format before (marked before (map (mark_as free) marking.places)) new
      (slice_set new marking.at (with_marks format u (map (mark_as free) marking.places)))) can.same
      (marks_kept format laws movable writable marking.at (map (mark_as free) marking.places) before new accepted
      (ap length can.same ∙ full marking.at can.inside) can.marks)

  -- after one unit the others can still be marked
  module _ (marking : Marking) (before : Directory) (new : List (List ℕ)) where
    abbrev mid : Directory
    mid = marked before (map (mark_as free) marking.places)

    abbrev next : List (List ℕ)
    next = slice_set new marking.at (with_marks format (unit_at old marking.at) (map (mark_as free) marking.places))

    still_can : IsKept format before mid new next → (later : Marking) → marking.at < later.at → CanMarkIn format free before old new later → CanMarkIn format free mid old next later
    still_can one later above was = record {
      inside = was.inside;
      same = get_or-set_other new marking.at later.at (with_marks format (unit_at old marking.at) (map (mark_as free) marking.places)) [] (λ same. omega (arith, above, same)) ∙ was.same;
      marks = λ i d within. still format laws movable writable later.at before mid new next one (same_places before mid one.frame)
          (λ place. ap (λ (d' : Directory). map_place d' place) one.frame) (slice_index_or (map (mark_as free) later.places) i d) (was.marks i d within);
    }

  pub markings_kept : (markings : List Marking) (m : ℕ) (before : Directory) (new : List (List ℕ)) → IsAccepted format before new
      → ((k : ℕ) → k < length markings → CanMarkIn format free before old new (marking_of markings k))
      → ((j k : ℕ) → j < k → k < length markings → (marking_of markings j).at < (marking_of markings k).at)
      → IsKept format before (marked before (all_marks free (take m markings))) new (store_after (take m (map (marking_write format free old) markings)) new)
  markings_kept [] zero before new accepted can rising = kept_same format before new accepted
  markings_kept [] (suc m) before new accepted can rising = kept_same format before new accepted
  markings_kept (marking ∷ markings) zero before new accepted can rising = kept_same format before new accepted
  markings_kept (marking ∷ markings) (suc m) before new accepted can rising =
      let one = one_marked marking before new accepted (can 0 (omega arith)) in
      let after = next marking before new in
      let rest = markings_kept markings m (mid marking before new) after one.accepted
      (λ k inside. still_can marking before new one (marking_of markings k) (rising 0 (suc k) (omega arith) (omega (arith, inside))) (can (suc k) (omega (arith, inside))))
      (λ j k less inside. rising (suc j) (suc k) (omega (arith, less)) (omega (arith, inside))) in
      subst (λ (d : Directory). IsKept format before d new (store_after (take m (map (marking_write format free old) markings)) after))
      (sym (marked_both (map (mark_as free) marking.places) (all_marks free (take m markings)) before))
      (kept_then format before (mid marking before new) (marked (mid marking before new) (all_marks free (take m markings))) new after
      (store_after (take m (map (marking_write format free old) markings)) after) one rest)
