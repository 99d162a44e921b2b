-- The next write of an open session, where it stands.
use Rattle.std.specs.Prelude.{◌≡◌, ◌⊎◌, ℕ, ◌+◌, List, [], ◌∷◌, None, length, slice_set}
use Rattle.std.proofs.Common.{refl, sym, ◌∙◌, ap, subst, arith, inl, inr, ⊎_elim}
use Rattle.vol_layout.specs.Plans.{moved}
use Rattle.vol_format.specs.Directory.{Directory, IsSameFrame}
use Rattle.vol_format.specs.Laws.{IsMovable, IsReadable}
use Rattle.vol_format.specs.Meaning.{Meaning}
use Rattle.vol_format.specs.Layout.{HasLayout}
use Rattle.vol_mover.specs.Tasks.{ChangesMap, Course, Task, Map, Copy, Pointer, IsAgenda, IsFewLost, course_after}
use Rattle.vol_mover.specs.Open.{IsOpen}
use Rattle.vol_mover.specs.Present.{Present, IsSession}
use Rattle.vol_mover.specs.Steps.{IsNextWrite, MovesOne}
use Rattle.vol_mover.specs.Volume.{SameVolume}
use Rattle.vol_mover.proofs.Left.{agenda_few, one_move}
use Rattle.vol_mover.proofs.NextWrites.{first_fits}
use Rattle.event_replay.specs.Moments.{Moment, Opened}
use Rattle.event_replay.specs.Volumes.{AreFew, HasFewLost, Writes}
use Rattle.event_replay.proofs.Layouts.{stands_as}
use Rattle.event_replay.specs.Held.{HasBegun, HasCome}
use Rattle.event_replay.proofs.FirstChanges.{begun_next, some_writes}

-- how many moves a write makes
abbrev pub moves_by : Task → ℕ
moves_by (Map at marks) = 0
moves_by (Copy move) = 0
moves_by (Pointer move) = 1

pub course_writes : (directory : Directory) (course : Course) (task : Task) → (course_after directory course task).writes ≡ course.writes + 1
course_writes directory course (Map at marks) = refl
course_writes directory course (Copy move) = refl
course_writes directory course (Pointer move) = refl

pub course_moves : (directory : Directory) (course : Course) (task : Task) → (course_after directory course task).moves ≡ course.moves + moves_by task
course_moves directory course (Map at marks) = omega arith
course_moves directory course (Copy move) = omega arith
course_moves directory course (Pointer move) = refl

same_available : (before after : Directory) → IsSameFrame before after → after.available ≡ before.available
same_available before after frame = ap (λ (d : Directory). d.available) frame

same_units : (before after : Directory) → IsSameFrame before after → after.map_units ≡ before.map_units
same_units before after frame = ap (λ (d : Directory). d.map_units) frame

-- few lost places, counted since the opening
unmarked : (directory : Directory) (first : ℕ) (course : Course) (tasks : List Task) → IsAgenda directory first course tasks → ChangesMap tasks → course.copied ≡ None
unmarked directory first course [] agenda changes = absurd changes
unmarked directory first course (Map at marks ∷ tasks) agenda changes = agenda.0.0
unmarked directory first course (Copy move ∷ tasks) agenda changes = absurd changes
unmarked directory first course (Pointer move ∷ tasks) agenda changes = absurd changes

are_few : (units : ℕ) (session : Present) (course : Course) (tasks : List Task) (opened : Opened) (writes moves : ℕ) → HasCome session course opened writes moves
    → HasBegun units opened.lost course tasks → (ChangesMap tasks → course.copied ≡ None) → IsFewLost units session.lost_at_first course tasks
    → AreFew units opened writes course.lost
are_few units session course tasks opened writes moves come begun unmarked (inl one) = inl one
are_few units session course tasks opened writes moves come begun unmarked (inr (inl two)) = inr (inl two)
are_few units session course tasks opened writes moves come begun unmarked (inr (inr (inl (none, few)))) =
    inr (inr (inl (omega (arith, none, come.writes_are), begun.none_made none)))
are_few units session course tasks opened writes moves come begun unmarked (inr (inr (inr (several, none, changes, few)))) =
    let now = begun.begins none (unmarked changes) changes in
    inr (inr (inr (several, omega (arith, now.count, some_writes tasks changes, come.writes_are), omega (arith, few, come.lost), begun.to, now.lost)))

module _ (format : Meaning) (movable : IsMovable format) where
  pub open_layout : (opening : Directory) (store : List (List ℕ)) (session : Present) (course : Course) → IsOpen format opening store session.parts course
      → HasLayout format store course.at
  open_layout opening store session course is =
      stands_as format movable is.directory (movable.described store is.directory is.accepted.described) store session.parts course.at is.stands is.accepted

  pub open_few : (store : List (List ℕ)) (session : Present) (course : Course) (tasks : List Task) (opened : Opened) (writes moves : ℕ)
      → IsOpen format session.opening store session.parts course → IsAgenda session.opening session.lost_at_first course tasks
      → HasCome session course opened writes moves → HasBegun (length session.opening.map_units) opened.lost course tasks → HasFewLost format opened store writes
  open_few store session course tasks opened writes moves is agenda come begun = record {
    directory = is.directory;
    described = is.accepted.described;
    lost = course.lost;
    all = is.lost;
    few = subst (λ (units : List ℕ). AreFew (length units) opened writes course.lost) (sym (same_units session.opening is.directory is.frame))
        (are_few (length session.opening.map_units) session course tasks opened writes moves come begun
        (unmarked session.opening session.lost_at_first course tasks agenda) (agenda_few session.opening session.lost_at_first course tasks agenda));
  }

  module _ (laws : IsReadable format) (old : Present) (course : Course) (session : IsSession format old course) (was : IsOpen format old.opening old.device.store old.parts course)
      (place : ℕ) (unit : List ℕ) (next : IsNextWrite format old course place unit) where
    abbrev after : Course
    after = course_after old.opening course next.task

    change : (task : Task) (rest : List Task) → old.tasks ≡ task ∷ rest → (moves : ℕ)
        → (((course_after old.opening course task).at ≡ course.at) × (moves + moves_by task ≡ moves))
        ⊎ (MovesOne old.places course.at (course_after old.opening course task).at × (moves + moves_by task ≡ moves + 1))
    change (Map at marks) rest first moves = inl (refl, omega arith)
    change (Copy move) rest first moves = inl (refl, omega arith)
    change (Pointer move) rest first moves =
        inr (subst (λ at. MovesOne old.places at (moved at move)) (sym session.layout) (one_move format laws old course session move rest first), refl)

    -- how far the work has come then
    pub come_after : (opened : Opened) (writes moves : ℕ) → HasCome old course opened writes moves
        → HasCome old after opened (writes + 1) (moves + moves_by next.task)
    come_after opened writes moves come = record {
      writes_are = omega (arith, come.writes_are, course_writes old.opening course next.task);
      moves_are = omega (arith, come.moves_are, course_moves old.opening course next.task);
      lost = come.lost;
    }

    pub begun_after : (opened : Opened) → HasBegun (length old.opening.map_units) opened.lost course old.tasks
        → HasBegun (length old.opening.map_units) opened.lost after next.rest
    begun_after opened begun = begun_next old.opening (length old.opening.map_units) opened.lost course next.task next.rest
        (subst (HasBegun (length old.opening.map_units) opened.lost course) next.first begun)

    -- the moment after the write
    abbrev pub written_moment : Moment → Moment
    written_moment now = record now { store = slice_set now.store place unit; writes = now.writes + 1; moves = now.moves + moves_by next.task }

    pub is_write : (now : Moment) → old.device.store ≡ now.store → HasCome old course now.opened now.writes now.moves
        → HasBegun (length old.opening.map_units) now.opened.lost course old.tasks → Writes format now (written_moment now)
    is_write now same come begun = record {
      place = place;
      unit = unit;
      written = refl;
      only = refl;
      volume = (opens.directory, opens.accepted);
      same = subst (λ s. SameVolume format s (slice_set s place unit)) same next.same;
      layout = record {
        from = course.at;
        to = after.at;
        was = subst (λ s. HasLayout format s course.at) same (open_layout old.opening old.device.store old course was);
        is = open_layout old.opening (slice_set now.store place unit) old after opens;
        directory = opens.directory;
        described = opens.accepted.described;
        change = ⊎_elim (λ still. inl still) (λ moves. inr (subst (λ n. MovesOne n course.at after.at) places moves.0, moves.1)) (change next.task next.rest next.first now.moves);
      };
      few = open_few (slice_set now.store place unit) old after next.rest now.opened (now.writes + 1) (now.moves + moves_by next.task) opens agenda
          (come_after now.opened now.writes now.moves come) (begun_after now.opened begun);
    }
      where
        opens : IsOpen format old.opening (slice_set now.store place unit) old.parts after
        opens = subst (λ s. IsOpen format old.opening (slice_set s place unit) old.parts after) same next.is_open

        places : old.places ≡ length opens.directory.available
        places = session.available ∙ ap (λ (xs : List ℕ). length xs) (sym (same_available old.opening opens.directory opens.frame))

        agenda : IsAgenda old.opening old.lost_at_first after next.rest
        agenda = (first_fits format old course session next.task next.rest next.first).2
