-- Steps one after the other.
use Rattle.std.specs.Prelude.{◌≡◌, ℕ, ◌+◌, false, List, [], ◌∷◌, ◌++◌, length, Ok, IsTrue}
use Rattle.std.proofs.Common.{refl, sym, ◌∙◌, ap, subst, arith, append_assoc}
use Rattle.std.proofs.lemmas.List.{length-append}
use Rattle.a2_device.specs.Device.{DeviceState, written}
use Rattle.vol_format.specs.Directory.{Directory}
use Rattle.vol_format.specs.Laws.{IsReadable}
use Rattle.vol_format.specs.Meaning.{Meaning}
use Rattle.vol_mover.specs.Tasks.{Course, Task, Map, Copy, Pointer, course_after}
use Rattle.vol_mover.specs.Failing.{WorksOn}
use Rattle.vol_mover.specs.Present.{Present, IsSession}
use Rattle.vol_mover.specs.Runs.{course_after_all, map_writes_of, IsRun}
use Rattle.vol_mover.specs.Steps.{IsStep, advanced}
use Rattle.vol_mover.specs.declared.progress.Progress.TheVariants.{Wrote as HasWritten}
use Rattle.vol_mover.specs.declared.progress.Wrote.{Wrote}
use Rattle.vol_mover.proofs.Failures.{works-none, works-one, works-then}
use Rattle.vol_mover.proofs.Stepping.{first_task}
use Rattle.vol_mover.proofs.Volumes.{same_volume-refl, same_volume-trans}

pub courses-append : (directory : Directory) (course : Course) (made : List Task) (task : Task)
    → course_after_all directory course (made ++ task ∷ []) ≡ course_after directory (course_after_all directory course made) task
courses-append directory course [] task = refl
courses-append directory course (first ∷ made) task = courses-append directory (course_after directory course first) made task

map_writes-append : (made : List Task) (task : Task) → map_writes_of (made ++ task ∷ []) ≡ map_writes_of made + map_writes_of (task ∷ [])
map_writes-append [] task = omega arith
map_writes-append (Map at marks ∷ made) task = omega (arith, map_writes-append made task)
map_writes-append (Copy move ∷ made) task = map_writes-append made task
map_writes-append (Pointer move ∷ made) task = map_writes-append made task

pub nothing_run : (format : Meaning) → IsReadable format → (old : Present) → IsRun format old old []
nothing_run format laws old = record {
  works = works-none old.device;
  tasks = refl;
  only = refl;
  map_writes = omega arith;
  session = λ course session. session;
  same = λ honest opened course session. same_volume-refl format laws old.device.store;
}

-- what a write that is taken note of changes
abbrev IsAdvanced : Present → Present → Type 0
IsAdvanced old new = new ≡ record old { device = new.device; at = new.at; tasks = new.tasks; map_writes = new.map_writes; moves = new.moves; unit = new.unit }

module _ (old : Present) (device : DeviceState) (unit : List ℕ) (rest : List Task) where
  is_advanced : (task : Task) → IsAdvanced old (record (advanced old task rest) { device = device; unit = unit })
  is_advanced (Map at marks) = refl
  is_advanced (Copy move) = refl
  is_advanced (Pointer move) = refl

  advanced_tasks : (task : Task) → (advanced old task rest).tasks ≡ rest
  advanced_tasks (Map at marks) = refl
  advanced_tasks (Copy move) = refl
  advanced_tasks (Pointer move) = refl

  advanced_map_writes : (task : Task) → (advanced old task rest).map_writes ≡ old.map_writes + map_writes_of (task ∷ [])
  advanced_map_writes (Map at marks) = refl
  advanced_map_writes (Copy move) = omega arith
  advanced_map_writes (Pointer move) = omega arith

-- only such fields are changed
advanced_then : (old mid new : Present) → IsAdvanced old mid → IsAdvanced mid new → IsAdvanced old new
advanced_then old mid new first then = then ∙ ap over first
  where
    over : Present → Present
    over p = record p { device = new.device; at = new.at; tasks = new.tasks; map_writes = new.map_writes; moves = new.moves; unit = new.unit }

module _ (format : Meaning) (laws : IsReadable format) (old mid new : Present) (made : List Task) (run : IsRun format old mid made) (kind : Wrote)
    (step : IsStep format mid new (Ok (HasWritten kind))) (start : Course) (session : IsSession format old start) where
  one_opening : mid.opening ≡ old.opening
  one_opening = ap (λ (p : Present). p.opening) run.only

  still_honest : IsTrue old.device.honest → IsTrue mid.device.honest
  still_honest honest = subst IsTrue (sym run.works.device.honest) honest

  -- the write that was made
  pub run_on : (task : Task) × IsRun format old new (made ++ task ∷ [])
  run_on =
      let goes = step.goes_on (course_after_all old.opening start made) (run.session start session) in
      let task = goes.0 in
      let rest = goes.1 in
      let only = goes.4 in
      let tasks : new.tasks ≡ rest = ap (λ (p : Present). p.tasks) only ∙ advanced_tasks mid new.device new.unit rest task in
      let count : new.map_writes ≡ mid.map_writes + map_writes_of (task ∷ []) =
      ap (λ (p : Present). p.map_writes) only ∙ advanced_map_writes mid new.device new.unit rest task in (
        task,
        record {
          works = subst (WorksOn old.device new.device) (sym (length-append made (task ∷ [])))
              (works-then old.device mid.device new.device (length made) 1 run.works (works-one mid.device new.device step.device step.faults wrote));
          tasks = run.tasks ∙ ap (λ (t : List Task). made ++ t) goes.2 ∙ sym (append_assoc made (task ∷ []) rest) ∙ ap (λ (t : List Task). (made ++ task ∷ []) ++ t) (sym tasks);
          only = advanced_then old mid new run.only (by_task task rest only);
          map_writes = omega (arith, count, run.map_writes, map_writes-append made task);
          session = λ course is. after course is task rest goes.2;
          same = λ honest opened course is.
              let closed : mid.closed ≡ false = ap (λ (p : Present). p.closed) run.only ∙ opened in
              let left = step.leaves (still_honest honest) closed (course_after_all old.opening course made) (run.session course is) in
              same_volume-trans format laws old.device.store mid.device.store new.device.store
              ((run.session course is).is_open (still_honest honest) closed).directory ((run.session course is).is_open (still_honest honest) closed).accepted.described
              (run.same honest opened course is) left.same;
        },
      )
    where
      wrote : IsTrue mid.device.honest → (place : ℕ) × (unit : List ℕ) × (new.device ≡ written place unit mid.device)
      wrote honest =
          let made_it = step.wrote honest kind refl (course_after_all old.opening start made) (run.session start session) in
          (made_it.0, made_it.1, made_it.3)

      by_task : (task : Task) (rest : List Task) → new ≡ record (advanced mid task rest) { device = new.device; unit = new.unit } → IsAdvanced mid new
      by_task task rest only = subst (IsAdvanced mid) (sym only) (is_advanced mid new.device new.unit rest task)

      after : (course : Course) → IsSession format old course → (task : Task) (rest : List Task) → mid.tasks ≡ task ∷ rest
          → IsSession format new (course_after_all old.opening course (made ++ task ∷ []))
      after course is task rest first =
          let goes = step.goes_on (course_after_all old.opening course made) (run.session course is) in
          let one : goes.0 ≡ task = first_task goes.0 task goes.1 rest (sym goes.2 ∙ first) in
          subst (IsSession format new) (sym (courses-append old.opening course made task))
          (subst (λ t. IsSession format new (course_after old.opening (course_after_all old.opening course made) t)) one
          (subst (λ o. IsSession format new (course_after o (course_after_all old.opening course made) goes.0)) one_opening goes.5))
