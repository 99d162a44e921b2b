-- What a step is, by how it ends.
use Rattle.std.specs.Prelude.{◌≡◌, ◌⊎◌, ◌≤◌, ℕ, ◌+◌, Bool, true, false, if◌then◌else◌, List, [], ◌∷◌, length, slice_set, Ok, Err, IsTrue, None}
use Rattle.std.proofs.Common.{refl, sym, ◌∙◌, ap, subst, arith, inl, inr}
use Rattle.a2_device.specs.Device.{DeviceState, IsSameDevice, OnlyReads, FailsRead, written, counted}
use Rattle.vol_format.specs.Laws.{IsReadable}
use Rattle.vol_format.specs.Meaning.{Meaning}
use Rattle.vol_mover.specs.Agenda.{next_write}
use Rattle.vol_mover.specs.Tasks.{Course, Task, Map, Copy, Pointer, IsAgenda, course_after}
use Rattle.vol_mover.specs.Open.{IsOpen}
use Rattle.vol_mover.specs.Present.{Present, IsSession}
use Rattle.vol_mover.specs.Steps.{IsNextWrite, IsStep, RefusesWrite, StepsLayout, advanced, kind_of}
use Rattle.vol_mover.specs.declared.progress.Progress.TheVariants.{Wrote as HasWritten, Done}
use Rattle.vol_mover.specs.declared.progress.StepError.TheVariants.{Closed, Read, Write}
use Rattle.vol_mover.proofs.Left.{leaves_all, leaves_next, one_move}
use Rattle.vol_mover.proofs.Sessions.{read_session, closed_session, advanced_session}

pub first_task : (task other : Task) (rest more : List Task) → task ∷ rest ≡ other ∷ more → task ≡ other
first_task task other rest more e = cc

pub same_device : (device : DeviceState) → IsSameDevice device device
same_device device = record { places = refl; unit_size = refl; image = refl; honest = refl; unreadable = refl }

pub same_then : (a b c : DeviceState) → IsSameDevice a b → IsSameDevice b c → IsSameDevice a c
same_then a b c x y = record {
  places = y.places ∙ x.places;
  unit_size = y.unit_size ∙ x.unit_size;
  image = y.image ∙ x.image;
  honest = y.honest ∙ x.honest;
  unreadable = y.unreadable ∙ x.unreadable;
}

nothing_left : (tasks : List Task) → next_write tasks ≡ None → tasks ≡ []
nothing_left [] e = refl
nothing_left (Map at marks ∷ rest) e = absurd (cc)
nothing_left (Copy move ∷ rest) e = absurd (cc)
nothing_left (Pointer move ∷ rest) e = absurd (cc)

module _ (format : Meaning) (laws : IsReadable format) (old : Present) where
  -- nothing is done
  pub is_closed : old.closed ≡ true → IsStep format old old (Err Closed)
  is_closed closed = record {
    device = same_device old.device;
    faults = refl;
    closed = (λ e. closed, λ e. refl);
    done = (λ e. absurd (cc), λ both. let opened = both.0 in absurd (cc (closed, opened)));
    still = λ either. refl;
    all_done = λ e. absurd (cc);
    read = λ e. absurd (cc);
    goes_on = λ course session. (refl, session);
    layout = refl;
    wrote = λ honest kind e. absurd (cc);
    refused = λ honest e. absurd (cc);
    leaves = λ honest opened. absurd (cc (closed, opened));
    writes = λ honest. refl;
  }

  pub is_done : old.closed ≡ false → next_write old.tasks ≡ None → IsStep format old old (Ok Done)
  is_done opened none = record {
    device = same_device old.device;
    faults = refl;
    closed = (λ e. absurd (cc), λ closed. absurd (cc (closed, opened)));
    done = (λ e. (opened, nothing_left old.tasks none), λ both. refl);
    still = λ either. refl;
    all_done = λ e course session. subst (IsAgenda old.opening old.lost_at_first course) (nothing_left old.tasks none) session.agenda;
    read = λ e. absurd (cc);
    goes_on = λ course session. (refl, session);
    layout = refl;
    wrote = λ honest kind e. absurd (cc);
    refused = λ honest e. absurd (cc);
    leaves = λ honest _ course session. leaves_all format laws old course session (session.is_open honest opened) old.device.store refl;
    writes = λ honest. refl;
  }

-- what reads leave of an honest device
pub reads_keep : (failed : Bool) (old new : DeviceState) → OnlyReads failed old new → IsTrue old.honest → (new.store ≡ old.store) × (new.writes ≡ old.writes)
reads_keep true old new reads honest = by_cause (reads.met honest refl).1
  where
    by_cause : FailsRead (reads.met honest refl).0 old new → (new.store ≡ old.store) × (new.writes ≡ old.writes)
    by_cause (inl meets) = (ap (λ (d : DeviceState). d.store) meets.1, ap (λ (d : DeviceState). d.writes) meets.1)
    by_cause (inr unreadable) = (ap (λ (d : DeviceState). d.store) unreadable.1, ap (λ (d : DeviceState). d.writes) unreadable.1)
reads_keep false old new reads honest =
    let same = reads.kept honest refl in
    (ap (λ (d : DeviceState). d.store) same, ap (λ (d : DeviceState). d.writes) same)

-- the device after a write that met a failure to come
abbrev AfterFailure : ℕ → List ℕ → DeviceState → DeviceState → Bool → Type 0
AfterFailure place unit old new took = new ≡ record (if took then written place unit old else (record old { writes = old.writes + 1; passes = new.passes })) {
  faults = counted old.faults;
  write_failures = new.write_failures;
}

-- what a refused write leaves
pub refusal_leaves : (place : ℕ) (unit : List ℕ) (old new : DeviceState) → RefusesWrite place unit old new
    → ((new.store ≡ old.store) ⊎ (new.store ≡ slice_set old.store place unit)) × (new.writes ≤ old.writes + 1)
refusal_leaves place unit old new (inl spent) =
    let count : new.writes ≡ old.writes = ap (λ (d : DeviceState). d.writes) spent.1 in
    (inl (ap (λ (d : DeviceState). d.store) spent.1), omega (arith, count))
refusal_leaves place unit old new (inr (inl meets)) = by_took meets.0 meets.3
  where
    by_took : (took : Bool) → AfterFailure place unit old new took → ((new.store ≡ old.store) ⊎ (new.store ≡ slice_set old.store place unit)) × (new.writes ≤ old.writes + 1)
    by_took true is =
        let count : new.writes ≡ old.writes + 1 = ap (λ (d : DeviceState). d.writes) is in
        (inr (ap (λ (d : DeviceState). d.store) is), omega (arith, count))
    by_took false is =
        let count : new.writes ≡ old.writes + 1 = ap (λ (d : DeviceState). d.writes) is in
        (inl (ap (λ (d : DeviceState). d.store) is), omega (arith, count))
refusal_leaves place unit old new (inr (inr closed)) =
    let count : new.writes ≡ old.writes + 1 = ap (λ (d : DeviceState). d.writes) closed.1 in
    (inl (ap (λ (d : DeviceState). d.store) closed.1), omega (arith, count))

module _ (format : Meaning) (laws : IsReadable format) (old : Present) (opened : old.closed ≡ false) (task : Task) (rest : List Task) (next : old.tasks ≡ task ∷ rest)
    (device : DeviceState) (unit : List ℕ) (size : length unit ≡ length old.unit) where
  -- the read failed
  pub is_unread : OnlyReads true old.device device → IsStep format old (record old { device = device; unit = unit }) (Err Read)
  is_unread reads = record {
    device = reads.same;
    faults = reads.faults;
    closed = (λ e. absurd (cc), λ closed. absurd (cc (closed, opened)));
    done = (λ e. absurd (cc), λ both. let none = both.1 in absurd (cc (none, next)));
    still = λ either. elim either [
      | inl e ↦ absurd (cc)
      | inr e ↦ absurd (cc)
    ];
    all_done = λ e. absurd (cc);
    read = λ e. reads;
    goes_on = λ course session. (refl, read_session format old course session device unit reads.same size (λ honest. (reads_keep true old.device device reads honest).0));
    layout = refl;
    wrote = λ honest kind e. absurd (cc);
    refused = λ honest e. absurd (cc);
    leaves = λ honest _ course session.
        leaves_all format laws old course session (session.is_open honest opened) device.store (reads_keep true old.device device reads honest).0;
    writes = λ honest. (reads_keep true old.device device reads honest).1;
  }

  module _ (same : IsSameDevice old.device device) (place : ℕ)
      (write : IsTrue old.device.honest → (course : Course) → IsSession format old course → IsNextWrite format old course place unit) where
    -- the write failed
    pub is_refused : device.faults ≡ counted old.device.faults → (IsTrue old.device.honest → RefusesWrite place unit old.device device) → IsStep format old (record old { device = device; unit = unit; closed = true }) (Err Write)
    is_refused told refuses = record {
      device = same;
      faults = told;
      closed = (λ e. absurd (cc), λ closed. absurd (cc (closed, opened)));
      done = (λ e. absurd (cc), λ both. let none = both.1 in absurd (cc (none, next)));
      still = λ either. elim either [
        | inl e ↦ absurd (cc)
        | inr e ↦ absurd (cc)
      ];
      all_done = λ e. absurd (cc);
      read = λ e. absurd (cc);
      goes_on = λ course session. (refl, closed_session format old course session device unit same size);
      layout = refl;
      wrote = λ honest kind e. absurd (cc);
      refused = λ honest e course session. (place, unit, write honest course session, refuses honest);
      leaves = λ honest _ course session. elim (refusal_leaves place unit old.device device (refuses honest)).0 [
        | inl kept ↦ leaves_all format laws old course session (session.is_open honest opened) device.store kept
        | inr stands ↦ leaves_next format laws old course session place unit (write honest course session) device.store stands
      ];
      writes = λ honest. (refusal_leaves place unit old.device device (refuses honest)).1;
    }

    -- the layout after the write of a task
    steps_layout : (course : Course) → IsSession format old course → (first : Task) → old.tasks ≡ first ∷ rest
        → StepsLayout (Ok (HasWritten (kind_of first))) old.places old.at (advanced old first rest).at
    steps_layout course session (Map at marks) is = refl
    steps_layout course session (Copy move) is = refl
    steps_layout course session (Pointer move) is = one_move format laws old course session move rest is

    -- the write was made
    pub is_wrote : device.faults ≡ old.device.faults → (course : Course) → IsSession format old course → (IsTrue old.device.honest → device ≡ written place unit old.device)
        → IsStep format old (record (advanced old task rest) { device = device; unit = unit }) (Ok (HasWritten (kind_of task)))
    is_wrote told start is_session writes = record {
      device = same;
      faults = told;
      closed = (λ e. absurd (cc), λ closed. absurd (cc (closed, opened)));
      done = (λ e. absurd (cc), λ both. let none = both.1 in absurd (cc (none, next)));
      still = λ either. elim either [
        | inl e ↦ absurd (cc)
        | inr e ↦ absurd (cc)
      ];
      all_done = λ e. absurd (cc);
      read = λ e. absurd (cc);
      goes_on = λ course session. (
        task,
        rest,
        next,
        refl,
        refl,
        advanced_session format old course session device unit same size rest task next (λ honest _. stands course session honest),
      );
      layout = steps_layout start is_session task next;
      wrote = λ honest kind e course session. (place, unit, write honest course session, writes honest);
      refused = λ honest e. absurd (cc);
      leaves = λ honest _ course session.
          leaves_next format laws old course session place unit (write honest course session) device.store (ap (λ (d : DeviceState). d.store) (writes honest));
      writes = λ honest. ap (λ (d : DeviceState). d.writes) (writes honest);
    }
      where
        stands : (course : Course) → IsSession format old course → IsTrue old.device.honest
            → IsOpen format old.opening device.store old.parts (course_after old.opening course task)
        stands course session honest =
            let made = write honest course session in
            let one = first_task made.task task made.rest rest (sym made.first ∙ next) in
            subst (λ s. IsOpen format old.opening s old.parts (course_after old.opening course task)) (sym (ap (λ (d : DeviceState). d.store) (writes honest)))
            (subst (λ t. IsOpen format old.opening (slice_set old.device.store place unit) old.parts (course_after old.opening course t)) one made.is_open)

-- a session is advanced the same whatever its device and its bytes
pub advanced_with : (old : Present) (device : DeviceState) (unit : List ℕ) (task : Task) (rest : List Task)
    → advanced (record old { device = device; unit = unit }) task rest ≡ record (advanced old task rest) { device = device; unit = unit }
advanced_with old device unit (Map at marks) rest = refl
advanced_with old device unit (Copy move) rest = refl
advanced_with old device unit (Pointer move) rest = refl
