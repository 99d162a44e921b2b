-- What a step leaves on the device.
use Rattle.std.specs.Prelude.{◌⊎◌, ◌≡◌, ◌≤◌, ℕ, ◌+◌, List, [], ◌∷◌, length, slice_set}
use Rattle.std.proofs.Common.{refl, sym, subst, arith, inl, inr}
use Rattle.vol_layout.specs.Plans.{moved}
use Rattle.vol_layout.specs.Rings.{IsDeficit}
use Rattle.vol_layout.specs.declared.moves.Move.{Move}
use Rattle.vol_format.specs.Directory.{Directory}
use Rattle.vol_format.specs.Laws.{IsReadable}
use Rattle.vol_format.specs.Meaning.{Meaning}
use Rattle.vol_mover.specs.Tasks.{Course, Task, Map, Copy, Pointer, IsFewLost, IsAgenda, course_after, moves_of}
use Rattle.vol_mover.specs.Open.{IsOpen}
use Rattle.vol_mover.specs.Present.{Present, IsSession, IsShortest}
use Rattle.vol_mover.specs.Steps.{IsNextWrite, Leaves, MovesOne}
use Rattle.vol_mover.proofs.NextWrites.{first_fits}
use Rattle.vol_mover.proofs.Sessions.{shortest_next}
use Rattle.vol_mover.proofs.Volumes.{same_volume-refl}

-- an agenda leaves few places lost
pub agenda_few : (directory : Directory) (first : ℕ) (course : Course) (tasks : List Task) → IsAgenda directory first course tasks
    → IsFewLost (length directory.map_units) first course tasks
agenda_few directory first course [] done = inl (subst (λ places. length places ≤ 1) (sym done.found) (omega arith))
agenda_few directory first course (task ∷ tasks) agenda = agenda.1

module _ (format : Meaning) (laws : IsReadable format) (old : Present) (course : Course) (session : IsSession format old course) where
  -- a move of the plan
  pub one_move : (move : Move) (rest : List Task) → old.tasks ≡ Pointer move ∷ rest → MovesOne old.places old.at (moved old.at move)
  one_move move rest next =
      let plan = subst (λ tasks. IsShortest old.at old.places (moves_of tasks)) next session.plan in
      let count : length (move ∷ moves_of rest) ≡ length (moves_of rest) + 1 = omega arith in
      record {
        move = move;
        deficit = length (moves_of rest);
        legal = plan.legal.0;
        is = refl;
        before_it = subst (IsDeficit old.at) count plan.deficit;
        after_it = (shortest_next old.at old.places move (moves_of rest) plan).deficit;
      }

  task_moves : (task : Task) (rest : List Task) → old.tasks ≡ task ∷ rest
      → ((course_after old.opening course task).at ≡ course.at) ⊎ MovesOne old.places course.at (course_after old.opening course task).at
  task_moves (Map at marks) rest next = inl refl
  task_moves (Copy move) rest next = inl refl
  task_moves (Pointer move) rest next = inr (subst (λ at. MovesOne old.places at (moved at move)) (sym session.layout) (one_move move rest next))

  -- nothing was written
  pub leaves_all : IsOpen format old.opening old.device.store old.parts course → (store : List (List ℕ)) → store ≡ old.device.store → Leaves format old course store
  leaves_all is store unchanged = subst (Leaves format old course) (sym unchanged) (record {
    now = course;
    tasks = old.tasks;
    reached = inl (refl, refl);
    is_open = is;
    same = same_volume-refl format laws old.device.store;
    few = agenda_few old.opening old.lost_at_first course old.tasks session.agenda;
    layout = inl refl;
  })

  -- the next write was made
  pub leaves_next : (place : ℕ) (unit : List ℕ) → IsNextWrite format old course place unit → (store : List (List ℕ)) → store ≡ slice_set old.device.store place unit
      → Leaves format old course store
  leaves_next place unit write store written = subst (Leaves format old course) (sym written) (record {
    now = course_after old.opening course write.task;
    tasks = write.rest;
    reached = inr (write.task, write.first, refl);
    is_open = write.is_open;
    same = write.same;
    few = agenda_few old.opening old.lost_at_first (course_after old.opening course write.task) write.rest
        (first_fits format old course session write.task write.rest write.first).2;
    layout = task_moves write.task write.rest write.first;
  })
