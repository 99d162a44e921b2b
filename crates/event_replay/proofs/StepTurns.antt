-- A step of a replay is a line of a run.
use Rattle.std.specs.Prelude.{◌≡◌, ◌⊎◌, ℕ, ◌+◌, ◌-◌, true, false, List, [], ◌∷◌, length, slice_set, Contains, Result, Ok, Err, None, Some}
use Rattle.std.proofs.Common.{refl, sym, ◌∙◌, ap, subst, arith, inl, inr}
use Rattle.vol_format.specs.Accepted.{IsVolume}
use Rattle.vol_format.specs.Directory.{Directory}
use Rattle.vol_format.specs.Laws.{IsMovable, IsReadable}
use Rattle.vol_format.specs.Meaning.{Meaning}
use Rattle.vol_format.specs.Standing.{IsLost}
use Rattle.vol_format.specs.Layout.{HasLayout}
use Rattle.vol_mover.specs.Tasks.{Task, Map, Copy, Pointer, course_after}
use Rattle.vol_mover.specs.Open.{IsOpen}
use Rattle.vol_mover.specs.Present.{Present, IsSession}
use Rattle.vol_mover.specs.Steps.{IsNextWrite, IsStep, RefusesWrite, advanced}
use Rattle.vol_mover.specs.declared.progress.Progress.{Progress}
use Rattle.vol_mover.specs.declared.progress.Progress.TheVariants.{Wrote as HasWritten, Done}
use Rattle.vol_mover.specs.declared.progress.StepError.{StepError}
use Rattle.vol_mover.specs.declared.progress.StepError.TheVariants.{Closed as IsClosed, Read as ReadFailed, Write as WriteFailed}
use Rattle.vol_mover.specs.declared.progress.Wrote.{Wrote}
use Rattle.vol_mover.proofs.Stepping.{first_task}
use Rattle.event_replay.specs.Holds.{ASession, MeetsOrder, ReadsNext, StepsToOrder, step_answer}
use Rattle.event_replay.specs.Moments.{Moment, Open, Closed, IsNotOpen}
use Rattle.event_replay.specs.Runs.{Steps, wrote, read_failed, write_failed, write_failed_and_stands, nothing_left, not_open}
use Rattle.event_replay.specs.Volumes.{IsInOrder}
use Rattle.event_replay.specs.declared.event.Answer.{Answer}
use Rattle.event_replay.specs.declared.event.Answer.TheVariants.{Stepped, Refused}
use Rattle.event_replay.specs.Orders.{MeetsOrders}
use Rattle.event_replay.proofs.Devices.{has_written, later, met_reads, none_fails, none_ordered, read_failed as device_read_failed, write_failed as device_write_failed}
use Rattle.event_replay.specs.Held.{HasBegun, IsDeviceAt, IsAt, IsOpenAt}
use Rattle.event_replay.proofs.ReadTurns.{failed_at}
use Rattle.event_replay.proofs.Writing.{begun_after, come_after, is_write, open_layout, written_moment}

-- what a write that is taken note of keeps
advanced_closed : (old : Present) (task : Task) (rest : List Task) → (advanced old task rest).closed ≡ old.closed
advanced_closed old (Map at marks) rest = refl
advanced_closed old (Copy move) rest = refl
advanced_closed old (Pointer move) rest = refl

advanced_lost : (old : Present) (task : Task) (rest : List Task) → (advanced old task rest).lost_at_first ≡ old.lost_at_first
advanced_lost old (Map at marks) rest = refl
advanced_lost old (Copy move) rest = refl
advanced_lost old (Pointer move) rest = refl

advanced_tasks : (old : Present) (task : Task) (rest : List Task) → (advanced old task rest).tasks ≡ rest
advanced_tasks old (Map at marks) rest = refl
advanced_tasks old (Copy move) rest = refl
advanced_tasks old (Pointer move) rest = refl

advanced_opening : (old : Present) (task : Task) (rest : List Task) → (advanced old task rest).opening ≡ old.opening
advanced_opening old (Map at marks) rest = refl
advanced_opening old (Copy move) rest = refl
advanced_opening old (Pointer move) rest = refl

none_there : (place : ℕ) → Contains [] place → ⊥
none_there place has = omega (arith, has.1)

rest_of : (task other : Task) (rest more : List Task) → task ∷ rest ≡ other ∷ more → rest ≡ more
rest_of task other rest more same = cc (same)

module _ (A : Type 0) (format : Meaning) (laws : IsReadable format) (movable : IsMovable format) (base left : ℕ) (old new : Present) (now : Moment)
    (device : IsDeviceAt base (left + 1) old.device now.fails_read now.fails_write now.store now.writes) (volume : IsVolume format now.store)
    (meets : MeetsOrders new.device) where
  -- the line of the run that the step is
  abbrev IsLine : Answer A → Type 0
  IsLine answer = (next : Moment) × Steps format now answer next × IsAt format base left (ASession new) next

  unchanged : new ≡ old → IsDeviceAt base left new.device now.fails_read now.fails_write now.store now.writes
  unchanged same = subst (λ (p : Present). IsDeviceAt base left p.device now.fails_read now.fails_write now.store now.writes) (sym same)
      (later base left old.device old.device now.fails_read now.fails_write now.store now.writes device)

  -- a closed session
  closed_line : (old.closed ≡ true) × (now.session ≡ Closed) → (result : Result Progress StepError) → IsStep format old new result → IsLine (step_answer result)
  closed_line is result step =
      let refused : result ≡ Err IsClosed = step.closed.1 is.0 in
      let same : new ≡ old = step.still (inl refused) in
      subst (λ r. IsLine (step_answer r)) (sym refused) (
        now,
        not_open (subst IsNotOpen (sym is.1) tt),
        (unchanged same, (volume, inr (ap (λ (p : Present). p.closed) same ∙ is.0, is.1))),
      )

  module _ (opened : IsOpenAt format old now.session now.opened now.writes now.moves)
      (unordered : ReadsNext old → now.fails_read ≡ false) where
    -- no read is to fail where a write is left
    comes : (task : Task) (rest : List Task) → old.tasks ≡ task ∷ rest → now.fails_read ≡ false
    comes task rest first =
        let count : length old.tasks ≡ length (task ∷ rest) = ap (λ (tasks : List Task). length tasks) first in
        unordered (opened.not_closed, omega (arith, count))

    was_open : IsOpen format old.opening old.device.store old.parts opened.course
    was_open = opened.is.is_open device.honest opened.not_closed

    layout : HasLayout format old.device.store opened.course.at
    layout = open_layout format movable old.opening old.device.store old opened.course was_open

    same_directory : layout.directory ≡ was_open.directory
    same_directory =
        laws.one_directory old.device.store layout.directory was_open.directory layout.accepted.described was_open.accepted.described

    done_line : IsStep format old new (Ok Done) → IsLine Stepped
    done_line step =
        let same : new ≡ old = step.still (inr refl) in
        let none : old.tasks ≡ [] = (step.done.0 refl).1 in
        let all = step.all_done refl opened.course opened.is in
        let left_is : now.session ≡ Open 0 = opened.left ∙ ap (λ (tasks : List Task). Open (length tasks)) none in (
          now,
          nothing_left left_is (subst (IsInOrder format) device.stands (record {
            at = opened.course.at;
            layout = layout;
            target = all.target;
            none_lost = λ place lost. none_there place
                (subst (λ (places : List ℕ). Contains places place) all.found
                ((was_open.lost place).1 (subst (λ d. IsLost format d old.device.store place) same_directory lost)));
          })),
          (unchanged same, (volume, inl (subst (λ p. IsOpenAt format p now.session now.opened now.writes now.moves) (sym same) opened))),
        )

    -- some write is left
    some_left : (result : Result Progress StepError) → IsStep format old new result → (result ≡ Ok Done → ⊥) → (task : Task) × (rest : List Task) × (old.tasks ≡ task ∷ rest)
    some_left result step other = by_tasks old.tasks refl
      where
        by_tasks : (tasks : List Task) → old.tasks ≡ tasks → (task : Task) × (rest : List Task) × (old.tasks ≡ task ∷ rest)
        by_tasks [] none = absurd (other (step.done.1 (opened.not_closed, none)))
        by_tasks (task ∷ rest) is = (task, rest, is)

    left_over : (task : Task) (rest : List Task) → old.tasks ≡ task ∷ rest → now.session ≡ Open (length rest + 1)
    left_over task rest first =
        let count : length (task ∷ rest) ≡ length rest + 1 = omega arith in
        opened.left ∙ ap (λ (tasks : List Task). Open (length tasks)) first ∙ ap Open count

    wrote_line : (kind : Wrote) → IsStep format old new (Ok (HasWritten kind)) → IsLine Stepped
    wrote_line kind step =
        let made = step.wrote device.honest kind refl opened.course opened.is in
        let place = made.0 in
        let unit = made.1 in
        let next = made.2 in
        let goes = step.goes_on opened.course opened.is in
        let same_task : goes.0 ≡ next.task = first_task goes.0 next.task goes.1 next.rest (sym goes.2 ∙ next.first) in
        let same_rest : goes.1 ≡ next.rest = rest_of goes.0 next.task goes.1 next.rest (sym goes.2 ∙ next.first) in
        let mid = written_moment format movable laws old opened.course opened.is was_open place unit next now in
        let writes = is_write format movable laws old opened.course opened.is was_open place unit next now device.stands opened.come opened.begun in
        let come = come_after format movable laws old opened.course opened.is was_open place unit next now.opened now.writes now.moves opened.come in
        let lost : new.lost_at_first ≡ old.lost_at_first = ap (λ (p : Present). p.lost_at_first) goes.4 ∙ advanced_lost old goes.0 goes.1 in
        let tasks : new.tasks ≡ next.rest = ap (λ (p : Present). p.tasks) goes.4 ∙ advanced_tasks old goes.0 goes.1 ∙ same_rest in (
          record mid { session = Open (length next.rest) },
          wrote (length next.rest) mid (left_over next.task next.rest next.first) (comes next.task next.rest next.first)
              (none_ordered base (left + 1) old.device new.device now.fails_read now.fails_write now.store now.writes place unit device meets made.3) writes,
          (
            has_written base left old.device new.device now.fails_read now.fails_write now.store now.writes place unit device meets made.3,
            (
              writes.volume,
              inl (record {
                not_closed = ap (λ (p : Present). p.closed) goes.4 ∙ advanced_closed old goes.0 goes.1 ∙ opened.not_closed;
                left = ap (λ (t : List Task). Open (length t)) (sym tasks);
                course = course_after old.opening opened.course next.task;
                is = subst (λ t. IsSession format new (course_after old.opening opened.course t)) same_task goes.5;
                come = record { writes_are = come.writes_are; moves_are = come.moves_are; lost = lost ∙ come.lost };
                begun = subst (λ (p : Present). HasBegun (length p.opening.map_units) now.opened.lost (course_after old.opening opened.course next.task) p.tasks) (sym goes.4)
                    (subst (λ (t : List Task). HasBegun (length (advanced old goes.0 goes.1).opening.map_units) now.opened.lost (course_after old.opening opened.course next.task) t)
                    (sym (advanced_tasks old goes.0 goes.1 ∙ same_rest))
                    (subst (λ (d : Directory). HasBegun (length d.map_units) now.opened.lost (course_after old.opening opened.course next.task) next.rest)
                    (sym (advanced_opening old goes.0 goes.1))
                    (begun_after format movable laws old opened.course opened.is was_open place unit next now.opened opened.begun)));
              }),
            ),
          ),
        )

    read_line : IsStep format old new (Err ReadFailed) → IsLine Refused
    read_line step =
        let some = some_left (Err ReadFailed) step (λ is. absurd (cc (is))) in
        let goes = step.goes_on opened.course opened.is in
        let failed = device_read_failed base left old.device new.device now.fails_read now.fails_write now.store now.writes
        (later base left old.device old.device now.fails_read now.fails_write now.store now.writes device) (step.read refl) in (
          record now { fails_read = false },
          read_failed (length some.1) (left_over some.0 some.1 some.2) failed.0,
          (
            failed.1,
            (
              volume,
              inl (record {
                not_closed = ap (λ (p : Present). p.closed) goes.0 ∙ opened.not_closed;
                left = opened.left ∙ ap (λ (p : Present). Open (length p.tasks)) (sym goes.0);
                course = opened.course;
                is = goes.1;
                come = record { writes_are = opened.come.writes_are; moves_are = opened.come.moves_are; lost = ap (λ (p : Present). p.lost_at_first) goes.0 ∙ opened.come.lost };
                begun = subst (λ (p : Present). HasBegun (length p.opening.map_units) now.opened.lost opened.course p.tasks) (sym goes.0) opened.begun;
              }),
            ),
          ),
        )

    write_line : IsStep format old new (Err WriteFailed) → IsLine Refused
    write_line step = by_cause refused.3
      where
        refused : (place : ℕ) × (unit : List ℕ) × IsNextWrite format old opened.course place unit × RefusesWrite place unit old.device new.device
        refused = step.refused device.honest refl opened.course opened.is

        next : IsNextWrite format old opened.course refused.0 refused.1
        next = refused.2

        closed : new.closed ≡ true
        closed = ap (λ (p : Present). p.closed) (step.goes_on opened.course opened.is).0

        by_failure : ((now.fails_write ≡ Some true) × IsDeviceAt base left new.device now.fails_read None (slice_set now.store refused.0 refused.1) (now.writes + 1))
            ⊎ ((now.fails_write ≡ Some false) × IsDeviceAt base left new.device now.fails_read None now.store now.writes) → IsLine Refused
        by_failure (inl (ordered, at)) =
            let mid = written_moment format movable laws old opened.course opened.is was_open refused.0 refused.1 next now in
            let writes = is_write format movable laws old opened.course opened.is was_open refused.0 refused.1 next now device.stands opened.come opened.begun in (
              record mid { session = Closed; fails_write = None },
              write_failed_and_stands (length next.rest) mid (left_over next.task next.rest next.first)
                  (comes next.task next.rest next.first) ordered writes,
              (at, (writes.volume, inr (closed, refl))),
            )
        by_failure (inr (ordered, at)) = (
          record now { session = Closed; fails_write = None },
          write_failed (length next.rest) (left_over next.task next.rest next.first) (comes next.task next.rest next.first) ordered,
          (at, (volume, inr (closed, refl))),
        )

        by_cause : RefusesWrite refused.0 refused.1 old.device new.device → IsLine Refused
        by_cause (inl (last, only)) = absurd (omega (arith, last, device.room))
        by_cause (inr fails) =
            by_failure (device_write_failed base left old.device new.device now.fails_read now.fails_write now.store now.writes refused.0 refused.1 device meets fails)

    open_line : (result : Result Progress StepError) → IsStep format old new result → IsLine (step_answer result)
    open_line (Ok Done) step = done_line step
    open_line (Ok (HasWritten kind)) step = wrote_line kind step
    open_line (Err IsClosed) step = let closed = step.closed.0 refl in let not_closed = opened.not_closed in absurd (cc (closed, not_closed))
    open_line (Err ReadFailed) step = read_line step
    open_line (Err WriteFailed) step = write_line step

  abbrev IsThere : Type 0
  IsThere = IsOpenAt format old now.session now.opened now.writes now.moves ⊎ ((old.closed ≡ true) × (now.session ≡ Closed))

  made_line : IsThere → (ReadsNext old → now.fails_read ≡ false) → (result : Result Progress StepError)
      → IsStep format old new result → IsLine (step_answer result)
  made_line (inl opened) unordered result step = open_line opened unordered result step
  made_line (inr closed) unordered result step = closed_line closed result step

  some_write_left : IsThere → ReadsNext old → (left_now : ℕ) × (now.session ≡ Open (left_now + 1))
  some_write_left (inl opened) next =
      let count : length old.tasks ≡ length old.tasks - 1 + 1 = omega (arith, next.1) in
      (length old.tasks - 1, opened.left ∙ ap Open count)
  some_write_left (inr closed) next = let is = closed.0 in let not_closed = next.0 in absurd (cc (is, not_closed))

  -- an order to fail a read is met
  met_line : (answer : Answer A) → IsThere → ReadsNext old → MeetsOrder old answer new → IsLine answer
  met_line answer there next meets =
      let some = some_write_left there next in
      let met = failed_at format base left old new now (device, (volume, there)) meets.only (met_reads old.device new.device meets.met) in
      subst IsLine (sym meets.answers) (record now { fails_read = false }, read_failed some.0 some.1 met.0, met.1)

  pub step_line : (answer : Answer A) → IsThere → StepsToOrder format old answer new → IsLine answer
  step_line answer there (inl (next, meets)) = met_line answer there next meets
  step_line answer there (inr (none, steps)) =
      subst IsLine (sym steps.answers) (made_line there
      (λ next. none_fails base (left + 1) old.device old.device now.fails_read now.fails_write now.store now.writes device (none next))
      steps.result steps.step)
