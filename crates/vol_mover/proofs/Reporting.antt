-- The work of a session that was run, as an optimizer reports it.
use Rattle.std.specs.Prelude.{◌≡◌, ◌⊎◌, ◌↔◌, ◌<◌, ◌≤◌, ℕ, ◌+◌, Bool, true, false, List, [], ◌∷◌, ◌++◌, length, take, min, slice_set, Result, Ok, Err, IfOk, IfErr, IsTrue}
use Rattle.std.proofs.Common.{refl, sym, ◌∙◌, ap, subst, arith, inl, inr, append_assoc}
use Rattle.std.proofs.lemmas.List.{length-append}
use Rattle.std.proofs.Math.Seq.{take-append_seam}
use Rattle.a2_device.specs.Device.{DeviceState, IsSameDevice, OnlyReads}
use Rattle.vol_layout.specs.Layouts.{Placement, misplaced}
use Rattle.vol_layout.specs.Plans.{after}
use Rattle.vol_layout.specs.Rings.{IsDeficit}
use Rattle.vol_layout.specs.declared.moves.Move.{Move}
use Rattle.move_plan.specs.declared.answer.Plan.{Plan}
use Rattle.ring_cert.specs.Certificates.{HasText, certificate_of, certificate_text}
use Rattle.ring_cert.specs.Good.{IsGood}
use Rattle.vol_format.specs.Directory.{Directory}
use Rattle.vol_format.specs.Laws.{IsReadable, IsDirectory}
use Rattle.vol_format.specs.Meaning.{Meaning}
use Rattle.vol_mover.specs.Opening.{IsPlanOf}
use Rattle.vol_mover.specs.Refused.{is_device_error}
use Rattle.vol_mover.specs.declared.opening.Options.{Options}
use Rattle.vol_mover.specs.Tasks.{Course, Task, Map, Copy, Pointer, IsAgenda, IsFewLost, course_after, moves_of}
use Rattle.vol_mover.specs.Begun.{IsBegun, first_lost, start_of}
use Rattle.vol_mover.specs.Failing.{CannotFail, FailsStep, WorksOn}
use Rattle.vol_mover.specs.Open.{IsOpen}
use Rattle.vol_mover.specs.Optimizing.{HasWorked, StopsWork, IsNoFailure, IsRefused}
use Rattle.vol_mover.specs.Present.{Present, IsSession}
use Rattle.vol_mover.specs.Report.{AreFewLost, IsWorked, IsReported, IsStopped, course_of}
use Rattle.vol_mover.specs.Runs.{IsRun, course_after_all, map_writes_of}
use Rattle.vol_mover.specs.Steps.{IsStep, Leaves}
use Rattle.vol_mover.specs.Volume.{SameVolume}
use Rattle.vol_mover.specs.declared.progress.StepError.{StepError}
use Rattle.vol_mover.specs.declared.progress.StepError.TheVariants.{Closed, Read, Write}
use Rattle.vol_mover.specs.declared.report.OptError.{OptError}
use Rattle.vol_mover.specs.declared.report.OptError.TheVariants.{Open, Step, Memory}
use Rattle.vol_mover.specs.declared.report.Report.{Report}
use Rattle.ring_cert.proofs.TextLaws.{shortest_is_good}
use Rattle.vol_layout.proofs.Lists.{length_distinct}
use Rattle.vol_layout.proofs.LowerBound.{bound_of_deficit}
use Rattle.vol_mover.proofs.Deficits.{few_claims}
use Rattle.vol_mover.proofs.Failures.{no_failed_read, no_failed_write, works-none, works-reads, works-then}
use Rattle.vol_mover.proofs.Left.{agenda_few}
use Rattle.vol_mover.proofs.LostPlaces.{few_lost_of}
use Rattle.vol_mover.proofs.Running.{courses-append}
use Rattle.vol_mover.proofs.Stepping.{reads_keep, same_then}
use Rattle.vol_mover.proofs.Volumes.{same_volume-trans}

-- where the parts stand after some writes
pub courses_at : (directory : Directory) (course : Course) (tasks : List Task) → (course_after_all directory course tasks).at ≡ after course.at (moves_of tasks)
courses_at directory course [] = refl
courses_at directory course (Map at marks ∷ tasks) = courses_at directory (course_after directory course (Map at marks)) tasks
courses_at directory course (Copy move ∷ tasks) = courses_at directory (course_after directory course (Copy move)) tasks
courses_at directory course (Pointer move ∷ tasks) = courses_at directory (course_after directory course (Pointer move)) tasks

courses_moves : (directory : Directory) (course : Course) (tasks : List Task) → (course_after_all directory course tasks).moves ≡ course.moves + length (moves_of tasks)
courses_moves directory course [] = omega arith
courses_moves directory course (Map at marks ∷ tasks) = courses_moves directory (course_after directory course (Map at marks)) tasks
courses_moves directory course (Copy move ∷ tasks) = courses_moves directory (course_after directory course (Copy move)) tasks
courses_moves directory course (Pointer move ∷ tasks) = omega (arith, courses_moves directory (course_after directory course (Pointer move)) tasks)

moves-append : (made left : List Task) → moves_of (made ++ left) ≡ moves_of made ++ moves_of left
moves-append [] left = refl
moves-append (Map at marks ∷ made) left = moves-append made left
moves-append (Copy move ∷ made) left = moves-append made left
moves-append (Pointer move ∷ made) left = ap (λ (moves : List Move). move ∷ moves) (moves-append made left)

append_none : (made : List Task) → made ++ [] ≡ made
append_none [] = refl
append_none (task ∷ made) = ap (λ (tasks : List Task). task ∷ tasks) (append_none made)

empty : (tasks : List Task) → length tasks ≡ 0 → tasks ≡ []
empty [] e = refl
empty (task ∷ tasks) e = absurd (omega (arith, e))

-- the certificate of a plan
good_certificate : {A : Type 0} (layout : Placement) (plan : Plan A) → IsPlanOf layout plan → HasText (certificate_of layout plan.misplaced.items plan.rings.items plan.moves.items)
    → IsGood layout (certificate_of layout plan.misplaced.items plan.rings.items plan.moves.items)
good_certificate layout plan planned = subst
    (λ xs. HasText (certificate_of layout xs plan.rings.items plan.moves.items) → IsGood layout (certificate_of layout xs plan.rings.items plan.moves.items))
    (sym planned.misplaced)
    (λ has.
    shortest_is_good layout plan.rings.items plan.moves.items (certificate_of layout (misplaced layout.at) plan.rings.items plan.moves.items) planned.legal planned.target
    planned.deficit planned.rings has has refl)

module _ (format : Meaning) (laws : IsReadable format) (options : Options) (old : DeviceState) (first : Present) (begun : IsBegun format options old first) where
  -- the device at first, where it is honest
  first_device : IsTrue old.honest → first.device ≡ old
  first_device honest = begun.reads.kept honest refl

  first_honest : IsTrue old.honest → IsTrue first.device.honest
  first_honest honest = subst IsTrue (sym begun.reads.same.honest) honest

  few_places : (made left : List Task) → first.tasks ≡ made ++ left → IsFewLost (length first.opening.map_units) first.lost_at_first (course_of first made) left
      → AreFewLost (first_lost first) (course_of first made).lost
  few_places made left tasks few =
      few_lost_of first.opening (length first.opening.map_units) first.lost_at_first first.at (first_lost first) (moves_of first.tasks) made left (sym begun.tasks ∙ tasks) few

  module _ (last : Present) (made : List Task) (run : IsRun format first last made) where
    session_now : IsSession format last (course_of first made)
    session_now = run.session (start_of first) begun.session

    last_opening : last.opening ≡ first.opening
    last_opening = ap (λ (p : Present). p.opening) run.only

    last_parts : last.parts ≡ first.parts
    last_parts = ap (λ (p : Present). p.parts) run.only

    last_lost : last.lost_at_first ≡ first.lost_at_first
    last_lost = ap (λ (p : Present). p.lost_at_first) run.only

    last_honest : IsTrue old.honest → IsTrue last.device.honest
    last_honest honest = subst IsTrue (sym run.works.device.honest) (first_honest honest)

    last_opened : last.closed ≡ false
    last_opened = ap (λ (p : Present). p.closed) run.only ∙ begun.opened

    agenda_now : IsAgenda first.opening first.lost_at_first (course_of first made) last.tasks
    agenda_now = subst (λ d. IsAgenda d first.lost_at_first (course_of first made) last.tasks) last_opening
        (subst (λ n. IsAgenda last.opening n (course_of first made) last.tasks) last_lost session_now.agenda)

    open_now : IsTrue old.honest → IsOpen format first.opening last.device.store first.parts (course_of first made)
    open_now honest = subst (λ d. IsOpen format d last.device.store first.parts (course_of first made)) last_opening
        (subst (λ parts. IsOpen format last.opening last.device.store parts (course_of first made)) last_parts (session_now.is_open (last_honest honest) last_opened))

    same_now : IsTrue old.honest → SameVolume format old.store last.device.store
    same_now honest = subst (λ (d : DeviceState). SameVolume format d.store last.device.store) (first_device honest)
        (run.same (first_honest honest) begun.opened (start_of first) begun.session)

    works_now : WorksOn old last.device (length made)
    works_now = subst (WorksOn old last.device) (omega arith)
        (works-then old first.device last.device 0 (length made) (works-reads old first.device begun.reads) run.works)

    worked : IsWorked format options old last.device first made last.tasks
    worked = record {
      begun = begun;
      tasks = run.tasks;
      device = same_then old first.device last.device begun.reads.same run.works.device;
      stands = open_now;
      same = same_now;
      few = agenda_few first.opening first.lost_at_first (course_of first made) last.tasks agenda_now;
      lost = few_places made last.tasks run.tasks (agenda_few first.opening first.lost_at_first (course_of first made) last.tasks agenda_now);
      layout = courses_at first.opening (start_of first) made;
    }

    -- the moves that were made
    moves_now : last.moves ≡ length (moves_of made)
    moves_now = sym session_now.moves ∙ courses_moves first.opening (start_of first) made ∙ omega arith

    first_moves : moves_of first.tasks ≡ moves_of made ++ moves_of last.tasks
    first_moves = ap moves_of run.tasks ∙ moves-append made last.tasks

    none_left : (limit : ℕ) → length made ≤ limit → (length made ≡ limit) ⊎ (last.tasks ≡ []) → (last.tasks ≡ []) ↔ (length first.tasks ≤ limit)
    none_left limit within all = (
      λ none.
          let count : length first.tasks ≡ length made = ap (λ (tasks : List Task). length tasks) (run.tasks ∙ ap (λ (tasks : List Task). made ++ tasks) none ∙ append_none made) in
          omega (arith, count, within),
      λ enough. elim all [
        | inl full ↦
            let count : length first.tasks ≡ length (made ++ last.tasks) = ap (λ (tasks : List Task). length tasks) run.tasks in
            empty last.tasks (omega (arith, count, length-append made last.tasks, full, enough))
        | inr none ↦ none
      ],
    )

    counted : (limit : ℕ) → length made ≤ limit → (length made ≡ limit) ⊎ (last.tasks ≡ []) → length made ≡ min limit (length first.tasks)
    counted limit within all =
        let count : length first.tasks ≡ length (made ++ last.tasks) = ap (λ (tasks : List Task). length tasks) run.tasks in
        let total = length-append made last.tasks in
        elim all [
          | inl full ↦ omega (arith, count, total, full)
          | inr none ↦
              let zero_left : length last.tasks ≡ 0 = ap (λ (tasks : List Task). length tasks) none in
              omega (arith, count, total, zero_left, within)
        ]

  pub reported : {A : Type 0} (limit : ℕ) (plan : Plan A) (text : List ℕ) (new : DeviceState) (report : Report A) → HasWorked format limit first plan text new report
      → IsPlanOf (record { at = first.at; places = first.places }) plan → moves_of first.tasks ≡ plan.moves.items
      → text ≡ certificate_text (certificate_of (record { at = first.at; places = first.places }) plan.misplaced.items plan.rings.items plan.moves.items)
      → HasText (certificate_of (record { at = first.at; places = first.places }) plan.misplaced.items plan.rings.items plan.moves.items)
      → IsReported format options limit old new report
  reported limit plan text new report has planned moves_is text_is fits =
      let last = has.last in
      let made = has.made in
      let run = has.run in
      let ends = none_left last made run limit has.within has.all in
      let count : report.moves ≡ length (moves_of made) = has.moves ∙ moves_now last made run in
      let front : take report.moves plan.moves.items ≡ moves_of made =
      ap (λ n. take n plan.moves.items) count ∙ ap (take (length (moves_of made))) (sym moves_is ∙ first_moves last made run)
      ∙ take-append_seam (moves_of made) (moves_of last.tasks) in
      record {
        first = first;
        made = made;
        left = last.tasks;
        worked = subst (λ d. IsWorked format options old d first made last.tasks) (sym has.device) (worked last made run);
        plan = plan;
        planned = planned;
        plan_moves = moves_is;
        cert = has.cert ∙ text_is;
        good = good_certificate (record { at = first.at; places = first.places }) plan planned fits;
        shortest = λ other legal end. bound_of_deficit first.at first.places (length plan.moves.items) other planned.deficit legal end;
        rings = has.rings;
        misplaced = has.misplaced;
        count = counted last made run limit has.within has.all;
        works = subst (λ d. WorksOn old d (length made)) (sym has.device) (works_now last made run);
        moves = count;
        map_writes = has.map_writes ∙ run.map_writes ∙ ap (λ n. n + map_writes_of made) no_map_writes ∙ omega arith;
        layout = courses_at first.opening (start_of first) made ∙ ap (after first.at) (sym front);
        finished = (λ yes. ends.0 (has.finished.0 yes), λ enough. has.finished.1 (ends.1 enough));
        done = λ yes.
            let none = has.finished.0 yes in
            let all_moves : moves_of first.tasks ≡ moves_of made = ap moves_of (run.tasks ∙ ap (λ (tasks : List Task). made ++ tasks) none ∙ append_none made) in (
              subst (IsAgenda first.opening first.lost_at_first (course_of first made)) none (agenda_now last made run),
              subst (IsDeficit first.at) (ap (λ (moves : List Move). length moves) all_moves ∙ sym count) begun.session.plan.deficit,
            );
      }
    where
      no_map_writes : first.map_writes ≡ 0
      no_map_writes = let made = begun.session.writes in omega (arith, made)

  -- a step failed after these writes
  module _ (limit : ℕ) (mid last : Present) (made : List Task) (run : IsRun format first mid made) (within : length made < limit) (error : StepError)
      (step : IsStep format mid last (Err error)) where
    last_same : IsSameDevice old last.device
    last_same = same_then old first.device last.device begun.reads.same (same_then first.device mid.device last.device run.works.device step.device)

    abbrev Left : Type 0
    Left = IsStopped format options limit old last.device error

    -- what failed
    fails : (e : StepError) → IsStep format mid last (Err e) → FailsStep format first (course_of first made) e mid.device last.device
    fails Closed shut = let closed = shut.closed.0 refl in let opened = last_opened mid made run in absurd (cc (closed, opened))
    fails Read unread = unread.read refl
    fails Write unwritten = (
      unwritten.faults,
      λ honest.
          let at = unwritten.refused honest refl (course_of first made) (session_now mid made run) in
          let next = at.2 in
          record {
            task = next.task;
            place = at.0;
            unit = at.1;
            next = subst (λ d. IsOpen format d (slice_set mid.device.store at.0 at.1) first.parts (course_after d (course_of first made) next.task)) (last_opening mid made run)
                (subst (λ parts. IsOpen format mid.opening (slice_set mid.device.store at.0 at.1) parts (course_after mid.opening (course_of first made) next.task))
                (last_parts mid made run) next.is_open);
            refused = at.3;
          },
    )

    -- whatever stands, and whatever the device: with these writes made, and these left
    stopped_at : (done more : List Task) → first.tasks ≡ done ++ more → IsFewLost (length first.opening.map_units) first.lost_at_first (course_of first done) more
        → (IsTrue old.honest → IsOpen format first.opening last.device.store first.parts (course_of first done)) → (IsTrue old.honest → SameVolume format old.store last.device.store)
        → (done ≡ made) ⊎ ((error ≡ Write) × (task : Task) × (done ≡ made ++ task ∷ [])) → Left
    stopped_at done more tasks few is_open same stands = record {
      first = first;
      before = made;
      mid = mid.device;
      works = works_now mid made run;
      within = within;
      fails = fails error step;
      made = done;
      left = more;
      worked = record {
        begun = begun;
        tasks = tasks;
        device = last_same;
        stands = is_open;
        same = same;
        few = few;
        lost = few_places done more tasks few;
        layout = courses_at first.opening (start_of first) done;
      };
      stands = stands;
    }

    few_now : IsFewLost (length first.opening.map_units) first.lost_at_first (course_of first made) mid.tasks
    few_now = agenda_few first.opening first.lost_at_first (course_of first made) mid.tasks (agenda_now mid made run)

    -- the store is the one before the step
    kept : (IsTrue old.honest → last.device.store ≡ mid.device.store) → Left
    kept store = stopped_at made mid.tasks run.tasks few_now
        (λ honest. subst (λ s. IsOpen format first.opening s first.parts (course_of first made)) (sym (store honest)) (open_now mid made run honest))
        (λ honest. subst (λ s. SameVolume format old.store s) (sym (store honest)) (same_now mid made run honest)) (inl refl)

    module _ (is_write : error ≡ Write) (honest : IsTrue old.honest) where
      left : Leaves format mid (course_of first made) last.device.store
      left = step.leaves (last_honest mid made run honest) (last_opened mid made run) (course_of first made) (session_now mid made run)

      same_left : SameVolume format old.store last.device.store
      same_left =
          let opened = open_now mid made run honest in
          same_volume-trans format laws old.store mid.device.store last.device.store opened.directory opened.accepted.described (same_now mid made run honest) left.same

      -- with these writes and one more, or without
      reached_at : (done more : List Task) → left.now ≡ course_of first done → first.tasks ≡ done ++ more → left.tasks ≡ more
          → (done ≡ made) ⊎ ((error ≡ Write) × (task : Task) × (done ≡ made ++ task ∷ [])) → Left
      reached_at done more now tasks rest stands = stopped_at done more tasks
          (subst (IsFewLost (length first.opening.map_units) first.lost_at_first (course_of first done)) rest
          (subst (λ course. IsFewLost (length first.opening.map_units) first.lost_at_first course left.tasks) now
          (subst (λ (d : Directory). IsFewLost (length d.map_units) first.lost_at_first left.now left.tasks) (last_opening mid made run)
          (subst (λ n. IsFewLost (length mid.opening.map_units) n left.now left.tasks) (last_lost mid made run) left.few))))
          (λ _.
          subst (IsOpen format first.opening last.device.store first.parts) now
          (subst (λ d. IsOpen format d last.device.store first.parts left.now) (last_opening mid made run)
          (subst (λ parts. IsOpen format mid.opening last.device.store parts left.now) (last_parts mid made run) left.is_open)))
          (λ _. same_left) stands

      unwritten : Left
      unwritten = elim left.reached [
        | inl same ↦ reached_at made mid.tasks same.0 run.tasks same.1 (inl refl)
        | inr next ↦
            let task = next.0 in
            reached_at (made ++ task ∷ []) left.tasks
            (next.2 ∙ ap (λ d. course_after d (course_of first made) task) (last_opening mid made run) ∙ sym (courses-append first.opening (start_of first) made task))
            (run.tasks ∙ ap (λ (tasks : List Task). made ++ tasks) next.1 ∙ sym (append_assoc made (task ∷ []) left.tasks)) refl (inr (is_write, task, refl))
      ]

    pub stopped : IsStopped format options limit old last.device error
    stopped = by_error error refl
      where
        by_honest : error ≡ Write → (honest : Bool) → old.honest ≡ honest → Left
        by_honest is true truthful = unwritten is truthful
        by_honest is false lying = kept (λ honest. absurd (cc (honest, lying)))

        by_error : (e : StepError) → error ≡ e → Left
        by_error Closed is = kept (λ honest. ap (λ (p : Present). p.device.store) (step.still (inl (ap (λ e. Err e) is))))
        by_error Read is = kept (λ honest. (reads_keep true mid.device last.device (step.read (ap (λ e. Err e) is)) (last_honest mid made run honest)).0)
        by_error Write is = by_honest is old.honest refl

-- Where nothing can fail, no step does.
pub no_stop : (format : Meaning) (options : Options) (limit : ℕ) (old new : DeviceState) (error : StepError) → CannotFail old → IsStopped format options limit old new error → ⊥
no_stop format options limit old new error sound stopped = by_error error stopped.fails
  where
    at_most : length stopped.before ≤ length stopped.made
    at_most = elim stopped.stands [
      | inl same ↦ let count : length stopped.made ≡ length stopped.before = ap (λ (tasks : List Task). length tasks) same in omega (arith, count)
      | inr more ↦
          let count : length stopped.made ≡ length (stopped.before ++ more.1 ∷ []) = ap (λ (tasks : List Task). length tasks) more.2 in
          omega (arith, count, length-append stopped.before (more.1 ∷ []))
    ]

    few : length stopped.before < 4294967296
    few =
        let count : length stopped.first.tasks ≡ length (stopped.made ++ stopped.left) = ap (λ (tasks : List Task). length tasks) stopped.worked.tasks in
        omega (arith, at_most, count, length-append stopped.made stopped.left, stopped.worked.begun.session.counted)

    by_error : (e : StepError) → FailsStep format stopped.first (course_of stopped.first stopped.before) e stopped.mid new → ⊥
    by_error Closed none = none
    by_error Read reads = no_failed_read old sound stopped.mid (length stopped.before) few stopped.works new reads
    by_error Write (told, at) =
        let failed = at (subst IsTrue (sym stopped.works.device.honest) sound.honest) in
        no_failed_write old sound stopped.mid (length stopped.before) few stopped.works failed.place failed.unit new failed.refused

-- Where nothing can fail, no error tells a failure.
pub no_failure : {A : Type 0} (format : Meaning) (options : Options) (limit : ℕ) (old new : DeviceState) (error : OptError A) → CannotFail old
    → IsRefused format options limit old new error → IsNoFailure error
no_failure format options limit old new (Open error) sound refused = by_failed (is_device_error {T = Unit {0}} (Err error)) refl refused.0
  where
    by_failed : (failed : Bool) → is_device_error {T = Unit {0}} (Err error) ≡ failed → OnlyReads failed old new → is_device_error {T = Unit {0}} (Err error) ≡ false
    by_failed true is reads = absurd (no_failed_read old sound old 0 (omega arith) (works-none old) new reads)
    by_failed false is reads = is
no_failure format options limit old new (Step error) sound stopped = no_stop format options limit old new error sound stopped
no_failure format options limit old new Memory sound refused = tt

-- the numbers that a certificate tells are small
pub small_claims : {A : Type 0} (format : Meaning) (options : Options) (old : DeviceState) (first : Present) → IsBegun format options old first → IsDirectory format first.opening
    → (plan : Plan A) → IsPlanOf (record { at = first.at; places = first.places }) plan → length plan.misplaced.items + length plan.rings.items < 4294967296
small_claims format options old first begun of plan planned =
    let layout = begun.session.plan.layout in
    let parts = length_distinct first.places first.at layout.distinct layout.below in
    let count : length plan.misplaced.items ≡ length (misplaced first.at) = ap (λ (xs : List ℕ). length xs) planned.misplaced in
    omega (arith, count, few_claims first.at plan.rings.items planned.rings, parts, begun.session.available, of.few_available)

pub if_ok : {T E : Type 0} (result : Result T E) (P Q : T → Type 0) → ((value : T) → P value → Q value) → IfOk result P → IfOk result Q
if_ok (Ok value) P Q f has = f value has
if_ok (Err error) P Q f has = tt

pub if_err : {T E : Type 0} (result : Result T E) (P Q : E → Type 0) → ((error : E) → P error → Q error) → IfErr result P → IfErr result Q
if_err (Ok value) P Q f has = tt
if_err (Err error) P Q f has = f error has

pub refused_of : {A : Type 0} (format : Meaning) → IsReadable format → (options : Options) (old : DeviceState) (first : Present) → IsBegun format options old first
    → (limit : ℕ) (new : DeviceState) (error : OptError A) → StopsWork format limit first new error → IsRefused format options limit old new error
refused_of format laws options old first begun limit new (Open error) stops = absurd stops
refused_of format laws options old first begun limit new Memory stops = absurd stops
refused_of format laws options old first begun limit new (Step error) (made, mid, last, run, within, step, is) =
    subst (λ d. IsStopped format options limit old d error) (sym is) (stopped format laws options old first begun limit mid last made run within error step)
