-- The places that are lost until the first change of the map is whole.
use Rattle.std.specs.Prelude.{◌≡◌, ◌⊎◌, ◌≤◌, ◌<◌, ◌==◌, ℕ, ◌/◌, Bool, true, false, not, if◌then◌else◌}
use Rattle.std.specs.Prelude.{List, [], ◌∷◌, ◌++◌, length, map, slice_index, slice_index_or, All, Contains, Some}
use Rattle.std.proofs.Common.{refl, sym, subst, arith, inl, inr}
use Rattle.std.proofs.lemmas.List.{get_or_default}
use Rattle.std.proofs.lemmas.List.Elements.{All-cons, All-filter, All-head, All-nil, All-tail}
use Rattle.std.proofs.lemmas.List.Kept.{AllPairs-filter}
use Rattle.vol_layout.specs.Plans.{IsPlan, moved}
use Rattle.vol_layout.specs.declared.moves.Move.{Move}
use Rattle.vol_format.specs.Directory.{Directory, map_place}
use Rattle.vol_format.specs.Laws.{IsDirectory}
use Rattle.vol_format.specs.Meaning.{Meaning}
use Rattle.vol_laws.specs.declared.mark.Mark.{Mark}
use Rattle.vol_mover.specs.Tasks.{ChangesMap, Course, Task, Map, Copy, Pointer, at_first, course_after, lost_after, moves_of, place_of, without}
use Rattle.vol_mover.specs.Writes.{beside, change, freed, outside, releases, used, with_mark, writes_after, writes_of}
use Rattle.vol_mover.proofs.Counts.{AreByUnit, few_changes, few_releases}
use Rattle.vol_mover.specs.Begun.{first_lost, start_of}
use Rattle.vol_mover.specs.Present.{IsSession, Present}
use Rattle.event_replay.specs.Held.{HasBegun, BeginsWork, MarksOnly, OnlyMarks, map_writes}
use Rattle.event_replay.specs.Volumes.{IsAmong}

-- marks of which those that mark a place used mark this one add no other lost place
among_after : (to : ℕ) (first : List ℕ) (marks : List Mark) (lost : List ℕ) → All (IsAmong to first) lost
    → All (OnlyMarks to) marks → All (IsAmong to first) (lost_after lost marks)
among_after to first [] lost among only = among
among_after to first (mark ∷ marks) lost among only =
    among_after to first marks (if mark.free then without lost mark.place else (mark.place ∷ without lost mark.place))
    (by_mark mark.free (All-head (OnlyMarks to) mark marks only)) (All-tail (OnlyMarks to) mark marks only)
  where
    fewer : All (IsAmong to first) (without lost mark.place)
    fewer = All-filter (λ other. not (other == mark.place)) (IsAmong to first) lost among

    by_mark : (free : Bool) → (free ≡ true) ⊎ (mark.place ≡ to)
        → All (IsAmong to first) (if free then without lost mark.place else (mark.place ∷ without lost mark.place))
    by_mark true is = fewer
    by_mark false (inl never) = absurd (cc (never))
    by_mark false (inr same) = All-cons (IsAmong to first) mark.place (without lost mark.place) (inl same) fewer

-- the next write
pub begins_next : (directory : Directory) (units : ℕ) (first : List ℕ) (to : ℕ) (course : Course) (task : Task) (rest : List Task)
    → BeginsWork units first to course (task ∷ rest)
    → BeginsWork units first to (course_after directory course task) rest
begins_next directory units first to course (Map at marks) rest before = λ none copied changes.
    let now = before none copied tt in record {
      count = omega (arith, now.count);
      marks = now.marks.1;
      lost = among_after to first marks course.lost now.lost now.marks.0;
    }
begins_next directory units first to course (Copy move) rest before = λ none copied. absurd (cc (copied))
begins_next directory units first to course (Pointer move) rest before = λ none. absurd (omega (arith, none))

-- the writes of a work that begins
writes_at_most : (tasks : List Task) → map_writes tasks ≤ length tasks
writes_at_most [] = omega arith
writes_at_most (Map at marks ∷ tasks) = omega (arith, writes_at_most tasks)
writes_at_most (Copy move ∷ tasks) = omega arith
writes_at_most (Pointer move ∷ tasks) = omega arith

until_copy : (tasks rest : List Task) (move : Move) → map_writes (tasks ++ Copy move ∷ rest) ≤ length tasks
until_copy [] rest move = omega arith
until_copy (Map at marks ∷ tasks) rest move = omega (arith, until_copy tasks rest move)
until_copy (Copy other ∷ tasks) rest move = omega arith
until_copy (Pointer other ∷ tasks) rest move = omega arith

module _ (to : ℕ) where
  only_until_copy : (tasks rest : List Task) (move : Move) → MarksOnly to tasks → MarksOnly to (tasks ++ Copy move ∷ rest)
  only_until_copy [] rest move only = tt
  only_until_copy (Map at marks ∷ tasks) rest move only = (only.0, only_until_copy tasks rest move only.1)
  only_until_copy (Copy other ∷ tasks) rest move only = tt
  only_until_copy (Pointer other ∷ tasks) rest move only = tt

  one_mark : (mark : Mark) → OnlyMarks to mark → All (OnlyMarks to) (mark ∷ [])
  one_mark mark is = All-cons (OnlyMarks to) mark [] is (All-nil (OnlyMarks to))

  only_with : (at : ℕ) (mark : Mark) (tasks : List Task) → OnlyMarks to mark → MarksOnly to tasks
      → MarksOnly to (with_mark at mark tasks)
  only_with at mark [] is only = (one_mark mark is, tt)
  only_with at mark (Copy move ∷ tasks) is only = (one_mark mark is, tt)
  only_with at mark (Pointer move ∷ tasks) is only = (one_mark mark is, tt)
  only_with at mark (Map unit marks ∷ tasks) is only = by_test (unit == at)
    where
      by_test : (same : Bool) → MarksOnly to (if same then (Map at (mark ∷ marks) ∷ tasks) else (Map at (mark ∷ []) ∷ Map unit marks ∷ tasks))
      by_test true = (All-cons (OnlyMarks to) mark marks is only.0, only.1)
      by_test false = (one_mark mark is, only)

  only_releases : (directory : Directory) (places : List ℕ) → MarksOnly to (releases directory places)
  only_releases directory [] = tt
  only_releases directory (place ∷ places) =
      only_with (map_place directory place) (freed place) (releases directory places) (inl refl) (only_releases directory places)

  all_freed : (places : List ℕ) → All (OnlyMarks to) (map freed places)
  all_freed [] = All-nil (OnlyMarks to)
  all_freed (place ∷ places) = All-cons (OnlyMarks to) (freed place) (map freed places) (inl refl) (all_freed places)

only_change : (directory : Directory) (place : ℕ) (lost : List ℕ) → MarksOnly place (change directory place lost)
only_change directory place lost = (
  All-cons (OnlyMarks place) (used place) (map freed (beside directory place lost)) (inr refl)
      (all_freed place (beside directory place lost)),
  only_releases place directory (outside directory (Some (map_place directory place)) lost),
)

at_most_first : (to : ℕ) (lost : List ℕ) → All (IsAmong to lost) lost
at_most_first to lost i d within = inr (i, within, sym (get_or_default lost i d (slice_index_or lost i d) within))

pub some_writes : (tasks : List Task) → ChangesMap tasks → 1 ≤ map_writes tasks
some_writes [] changes = absurd changes
some_writes (Map at marks ∷ tasks) changes = omega arith
some_writes (Copy move ∷ tasks) changes = absurd changes
some_writes (Pointer move ∷ tasks) changes = absurd changes

-- where the work leads first
abbrev pub first_place : Directory → List Move → ℕ
first_place directory [] = 0
first_place directory (move ∷ moves) = place_of directory move.to

module _ (format : Meaning) (directory : Directory) (is : IsDirectory format directory) (at lost : List ℕ)
    (there : All (Contains directory.available) lost)
    (by_unit : AreByUnit directory lost) where
  pub begins_work : (moves : List Move)
      → ((move : Move) (rest : List Move) → moves ≡ move ∷ rest → Contains directory.available (place_of directory move.to))
      → BeginsWork (length directory.map_units) lost (first_place directory moves) (at_first at lost)
      (writes_of directory at lost moves)
  begins_work [] named = λ none copied changes. record {
    count = omega (arith, writes_at_most (releases directory lost), few_releases format directory is lost there by_unit);
    marks = only_releases 0 directory lost;
    lost = at_most_first 0 lost;
  }
  begins_work (move ∷ moves) named = λ none copied changes. record {
    count = omega (
      arith,
      until_copy first (Pointer move ∷ later) move,
      few_changes format directory is (place_of directory move.to) lost (named move moves refl) there by_unit,
    );
    marks = only_until_copy (place_of directory move.to) first (Pointer move ∷ later) move
        (only_change directory (place_of directory move.to) lost);
    lost = at_most_first (place_of directory move.to) lost;
  }
    where
      first : List Task
      first = change directory (place_of directory move.to) lost

      later : List Task
      later = writes_after directory (slice_index at move.part) (moved at move) moves

-- the next write, and what was before the first
pub begun_next : (directory : Directory) (units : ℕ) (first : List ℕ) (course : Course) (task : Task) (rest : List Task)
    → HasBegun units first course (task ∷ rest) → HasBegun units first (course_after directory course task) rest
begun_next directory units first course task rest before = record {
  none_made = λ none. absurd (some_made task none);
  to = before.to;
  begins = begins_next directory units first before.to course task rest before.begins;
}
  where
    some_made : (t : Task) → (course_after directory course t).writes ≡ 0 → ⊥
    some_made (Map at marks) none = omega (arith, none)
    some_made (Copy move) none = omega (arith, none)
    some_made (Pointer move) none = omega (arith, none)

-- a session that was opened
module _ (format : Meaning) (session : Present) (is_session : IsSession format session (start_of session))
    (of : IsDirectory format session.opening)
    (tasks : session.tasks ≡ writes_of session.opening session.at (first_lost session) (moves_of session.tasks)) where
  abbrev opening : Directory
  opening = session.opening

  abbrev lost : List ℕ
  lost = first_lost session

  abbrev units : ℕ
  units = length session.opening.map_units

  pub begun_at_first : HasBegun (length session.opening.map_units) (first_lost session) (start_of session) session.tasks
  begun_at_first = record {
    none_made = λ _. refl;
    to = first_place opening (moves_of session.tasks);
    begins = subst (BeginsWork units lost (first_place opening (moves_of session.tasks)) (start_of session)) (sym tasks)
        (begins_work format opening of session.at lost there by_unit (moves_of session.tasks) named);
  }
    where
      there : All (Contains opening.available) lost
      there = All-filter _ (Contains opening.available) opening.available
          (λ i d within. (i, within, sym (get_or_default opening.available i d (slice_index_or opening.available i d) within)))

      by_unit : AreByUnit opening lost
      by_unit = AllPairs-filter (λ place later. place / opening.map_size ≤ later / opening.map_size) _ opening.available
          of.available_by_unit

      named : (move : Move) (rest : List Move) → moves_of session.tasks ≡ move ∷ rest
          → Contains opening.available (place_of opening move.to)
      named move rest is =
          let plan = subst (λ (ms : List Move). IsPlan session.at session.places ms) is is_session.plan.legal in
          let inside : move.to < length opening.available = subst (λ n. move.to < n) is_session.available plan.0.place in
          (move.to, inside, get_or_default opening.available move.to (place_of opening move.to) 0 inside)
