-- An event of a replay is a turn of a run.
use Rattle.std.specs.Prelude.{◌≡◌, ℕ, ◌+◌, true, List, [], ◌∷◌, ◌++◌, Some}
use Rattle.std.proofs.Common.{refl, sym, ◌∙◌, subst, inl, inr}
use Rattle.a2_device.specs.Device.{DeviceState, IsSameDevice}
use Rattle.vol_format.specs.Directory.{Directory}
use Rattle.vol_format.specs.Laws.{IsMovable, IsReadable}
use Rattle.vol_format.specs.Meaning.{Meaning}
use Rattle.vol_mover.specs.Present.{Present}
use Rattle.file_formats.specs.Files.{FileMeaning}
use Rattle.event_replay.specs.Holds.{Holds, ASession, ADevice, ChangesHolds, OpensHolds, OpensToOrder, ReadsFileToOrder, StepsToOrder, TurnsHolds, device_of, held}
use Rattle.event_replay.specs.declared.turning.Held.{Held}
use Rattle.event_replay.specs.declared.turning.Held.TheVariants.{Session as HeldSession, Device as HeldDevice}
use Rattle.event_replay.specs.Moments.{IsNotOpen, Moment}
use Rattle.event_replay.specs.Orders.{MeetsOrders, read_ordered, write_ordered}
use Rattle.event_replay.specs.Runs.{IsRun, IsTurn, last_of, Reads, Steps, no_session, not_open}
use Rattle.event_replay.specs.declared.event.Answer.{Answer}
use Rattle.event_replay.specs.declared.event.Event.{Event}
use Rattle.event_replay.specs.declared.event.Event.TheVariants.{Step, Read, FailRead, FailWrite, Stop}
use Rattle.event_replay.proofs.Devices.{later, met_reads}
use Rattle.event_replay.specs.Held.{IsDeviceAt, IsAt}
use Rattle.event_replay.proofs.ReadTurns.{read_line, read_order, write_order}
use Rattle.event_replay.proofs.StepTurns.{step_line}
use Rattle.event_replay.proofs.StopTurns.{stop_line}

-- what is true of each device is true of one that is held
pub of_held : {D F A V : Type 0} (P : DeviceState → Type 0) (state : D → DeviceState) (directory : F → V → Directory) → ((device : D) → P (state device))
    → (h : Held D F A V) → P (device_of (held state directory h))
of_held P state directory all (HeldSession session) = all session.device
of_held P state directory all (HeldDevice device) = all device

-- what no call changes
still_same : (old new : DeviceState) → new ≡ old → IsSameDevice old new
still_same old new same = subst (IsSameDevice old) (sym same) (record { places = refl; unit_size = refl; image = refl; honest = refl; unreadable = refl })

pub same_then : (old mid new : DeviceState) → IsSameDevice old mid → IsSameDevice mid new → IsSameDevice old new
same_then old mid new first next = record {
  places = next.places ∙ first.places;
  unit_size = next.unit_size ∙ first.unit_size;
  image = next.image ∙ first.image;
  honest = next.honest ∙ first.honest;
  unreadable = next.unreadable ∙ first.unreadable;
}

module _ (A : Type 0) (format : Meaning) where
  pub opens_same : (old : DeviceState) (answer : Answer A) (new : Holds) → OpensHolds format old answer new → IsSameDevice old (device_of new)
  opens_same old answer (ASession new) (begun, is) = begun.reads.same
  opens_same old answer (ADevice new) opening = opening.device.same

  changes_same : (change : DeviceState → DeviceState) → ((device : DeviceState) → IsSameDevice device (change device)) → (old new : Holds) → ChangesHolds change old new
      → IsSameDevice (device_of old) (device_of new)
  changes_same change same (ASession old) (ASession new) is = subst (λ (p : Present). IsSameDevice old.device p.device) (sym is) (same old.device)
  changes_same change same (ADevice old) (ADevice new) is = subst (IsSameDevice old) (sym is) (same old)
  changes_same change same (ASession old) (ADevice new) is = absurd is
  changes_same change same (ADevice old) (ASession new) is = absurd is

  step_same : (answer : Answer A) (old new : Present) → StepsToOrder format old answer new → IsSameDevice old.device new.device
  step_same answer old new (inl (next, meets)) = (met_reads old.device new.device meets.met).same
  step_same answer old new (inr (none, steps)) = steps.step.device

  read_same : (files : FileMeaning) (path : List ℕ) (answer : Answer A) (old new : DeviceState)
      → ReadsFileToOrder format files path old answer new → IsSameDevice old new
  read_same files path answer old new (inl (met, is)) = (met_reads old new met).same
  read_same files path answer old new (inr (none, reads)) = reads.device.same

  stop_same : (old : DeviceState) (answer : Answer A) (new : Holds) → OpensToOrder format old answer new → IsSameDevice old (device_of new)
  stop_same old answer new (inl (met, alone, is)) = (met_reads old (device_of new) met).same
  stop_same old answer new (inr (none, opens)) = opens_same old answer new opens

  pub turn_same : (files : FileMeaning) (event : Event) (answer : Answer A) (old new : Holds) → TurnsHolds format files event old answer new
      → IsSameDevice (device_of old) (device_of new)
  turn_same files Step answer (ASession old) (ASession new) steps = step_same answer old new steps
  turn_same files Step answer (ADevice old) (ADevice new) (same, is) = still_same old new same
  turn_same files Step answer (ASession old) (ADevice new) never = absurd never
  turn_same files Step answer (ADevice old) (ASession new) never = absurd never
  turn_same files (Read path) answer (ASession old) (ASession new) (reads, only) = read_same files path.now answer old.device new.device reads
  turn_same files (Read path) answer (ADevice old) (ADevice new) (same, is) = still_same old new same
  turn_same files (Read path) answer (ASession old) (ADevice new) never = absurd never
  turn_same files (Read path) answer (ADevice old) (ASession new) never = absurd never
  turn_same files FailRead answer old new (is, changes) =
      changes_same read_ordered (λ device. record { places = refl; unit_size = refl; image = refl; honest = refl; unreadable = refl }) old new changes
  turn_same files (FailWrite took) answer old new (is, changes) =
      changes_same (write_ordered took) (λ device. record { places = refl; unit_size = refl; image = refl; honest = refl; unreadable = refl }) old new changes
  turn_same files Stop answer old new opens = stop_same (device_of old) answer new opens

module _ (A : Type 0) (format : Meaning) (laws : IsReadable format) (movable : IsMovable format) (files : FileMeaning) (base left : ℕ) where
  pub turn_line : (event : Event) (answer : Answer A) (old new : Holds) (now : Moment) → IsAt format base (left + 1) old now → MeetsOrders (device_of new)
      → TurnsHolds format files event old answer new → (next : Moment) × IsTurn format files now event answer next × IsAt format base left new next
  turn_line Step answer (ASession old) (ASession new) now at meets steps =
      step_line A format laws movable base left old new now at.0 at.1.0 meets answer at.1.1 steps
  turn_line Step answer (ADevice old) (ADevice new) now at meets (same, is) =
      subst (λ a. (next : Moment) × Steps format now a next × IsAt format base left (ADevice new) next) (sym is) (
        now,
        not_open (subst IsNotOpen (sym at.1) tt),
        (
          subst (λ d. IsDeviceAt base left d now.fails_read now.fails_write now.store now.writes) (sym same)
              (later base left old old now.fails_read now.fails_write now.store now.writes at.0),
          at.1,
        ),
      )
  turn_line Step answer (ASession old) (ADevice new) now at meets never = absurd never
  turn_line Step answer (ADevice old) (ASession new) now at meets never = absurd never
  turn_line (Read path) answer (ASession old) (ASession new) now at meets (reads, only) = read_line A format laws files path.now base left old new now at only answer reads
  turn_line (Read path) answer (ADevice old) (ADevice new) now at meets (same, is) =
      subst (λ a. (next : Moment) × Reads format files path.now now a next × IsAt format base left (ADevice new) next) (sym is) (
        now,
        no_session at.1,
        (
          subst (λ d. IsDeviceAt base left d now.fails_read now.fails_write now.store now.writes) (sym same)
              (later base left old old now.fails_read now.fails_write now.store now.writes at.0),
          at.1,
        ),
      )
  turn_line (Read path) answer (ASession old) (ADevice new) now at meets never = absurd never
  turn_line (Read path) answer (ADevice old) (ASession new) now at meets never = absurd never
  turn_line FailRead answer old new now at meets (is, changes) = (record now { fails_read = true }, (is, refl), read_order format base left old new now at changes)
  turn_line (FailWrite took) answer old new now at meets (is, changes) =
      (record now { fails_write = Some took }, (is, refl), write_order format base left took old new now at changes)
  turn_line Stop answer old new now at meets opens =
      stop_line A format movable base left (device_of old) now (later base left (device_of old) (device_of old) now.fails_read now.fails_write now.store now.writes at.0) answer new opens

  -- a run that goes on
  pub run_on : (first next : Moment) (events : List Event) (answers : List (Answer A)) (run : List Moment) (event : Event) (answer : Answer A)
      → IsRun format files first events answers run → IsTurn format files (last_of first run) event answer next
      → IsRun format files first (events ++ event ∷ []) (answers ++ answer ∷ []) (run ++ next ∷ [])
  run_on first next [] [] [] event answer is turn = (turn, tt)
  run_on first next (e ∷ events) (a ∷ answers) (now ∷ run) event answer is turn = (is.0, run_on now next events answers run event answer is.1 turn)
  run_on first next [] [] (now ∷ run) event answer is turn = absurd is
  run_on first next [] (a ∷ answers) run event answer is turn = absurd is
  run_on first next (e ∷ events) [] run event answer is turn = absurd is
  run_on first next (e ∷ events) (a ∷ answers) [] event answer is turn = absurd is

  pub last_on : (first next : Moment) (run : List Moment) → last_of first (run ++ next ∷ []) ≡ next
  last_on first next [] = refl
  last_on first next (now ∷ run) = last_on now next run
