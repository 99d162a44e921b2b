-- An opening is a line of a run.
use Rattle.std.specs.Prelude.{◌≡◌, ◌≢◌, ℕ, false, List, [], length, Err, None}
use Rattle.std.proofs.Common.{refl, sym, subst, arith, inl, inr}
use Rattle.a2_device.specs.Device.{DeviceState, OnlyReads}
use Rattle.move_plan.specs.Planning.{LacksFreePlace}
use Rattle.vol_format.specs.Accepted.{IsAccepted}
use Rattle.vol_format.specs.Laws.{IsMovable}
use Rattle.vol_format.specs.Meaning.{Meaning}
use Rattle.vol_format.specs.Reach.{IsPartsOf}
use Rattle.vol_mover.specs.Refused.{IsRefusal, is_device_error}
use Rattle.vol_mover.specs.declared.error.OpenError.{OpenError}
use Rattle.vol_mover.specs.declared.error.OpenError.TheVariants.{Check, Lost, NoFreePlace, Device, Memory}
use Rattle.vol_mover.specs.Begun.{IsBegun, TakesWrites, first_lost, start_of}
use Rattle.vol_mover.specs.Present.{Present}
use Rattle.event_replay.specs.Holds.{Holds, ASession, ADevice, OpensHolds, OpensToOrder, device_of}
use Rattle.event_replay.specs.Moments.{Moment, Open, Absent, first_moment}
use Rattle.event_replay.specs.Runs.{Begins, Stops, opened, failed, refused}
use Rattle.event_replay.specs.Volumes.{CantOpen, reclaiming}
use Rattle.event_replay.specs.declared.event.Answer.{Answer}
use Rattle.event_replay.specs.declared.event.Answer.TheVariants.{Stepped, Bytes, Refused, NoMemory}
use Rattle.event_replay.proofs.FirstChanges.{begun_at_first}
use Rattle.event_replay.proofs.Devices.{met_reads, none_fails, only_read, read_failed}
use Rattle.event_replay.specs.Held.{IsDeviceAt, IsAt}

module _ (A : Type 0) (format : Meaning) (movable : IsMovable format) (base left : ℕ) (old : DeviceState) (now : Moment) (at : IsDeviceAt base left old now.fails_read now.fails_write now.store now.writes)
    (comes : now.fails_read ≡ false) where
  abbrev IsLine : Answer A → Holds → Type 0
  IsLine answer new = (next : Moment) × Stops format now answer next × IsAt format base left new next

  came : (new : DeviceState) → OnlyReads false old new → IsDeviceAt base left new now.fails_read now.fails_write now.store now.writes
  came new reads = subst (λ d. IsDeviceAt base left d now.fails_read now.fails_write now.store now.writes)
      (sym (only_read base left old new now.fails_read now.fails_write now.store now.writes at reads)) at

  session_opened : (new : Present) → IsBegun format reclaiming old new → IsLine Stepped (ASession new)
  session_opened new begun =
      let accepted = subst (λ s. IsAccepted format new.opening s) at.stands (begun.accepted at.honest) in
      let lost = first_lost new in
      let writes = length new.tasks in (
        record now { session = Open writes; opened = record { lost = lost; writes = now.writes; moves = now.moves } },
        opened lost writes comes (record {
          directory = new.opening;
          accepted = accepted;
          parts = new.parts;
          are_parts = subst (λ s. IsPartsOf format new.opening s new.parts) at.stands (begun.parts at.honest);
          free = subst (λ (l : List ℕ). ¬ LacksFreePlace (record { at = l; places = length new.opening.available })) begun.layout
              (subst (λ n. ¬ LacksFreePlace (record { at = new.at; places = n })) begun.session.available begun.free);
          lost_are = refl;
          takes = subst (λ (l : List ℕ). TakesWrites (length new.opening.map_units) l (first_lost new) writes) begun.layout begun.writes;
        }),
        (
          came new.device begun.reads,
          (
            (new.opening, accepted),
            inl (record {
              not_closed = begun.opened;
              left = refl;
              course = start_of new;
              is = begun.session;
              come = record { writes_are = omega arith; moves_are = omega arith; lost = begun.lost };
              begun = begun_at_first format new begun.session (movable.described now.store new.opening accepted.described) begun.tasks;
            }),
          ),
        ),
      )

  by_error : (error : OpenError A) (new : DeviceState) → OnlyReads (is_device_error {T = Unit {0}} (Err error)) old new
      → IsRefusal format old.store reclaiming error → error ≢ Memory → IsLine Refused (ADevice new)
  by_error (Check faults) new reads is other =
      (record now { session = Absent }, refused (Check faults) comes (subst (λ s. CantOpen {A = A} format s (Check faults)) at.stands is), (came new reads, refl))
  by_error (Lost count) new reads is other = let never = is.refuses.0 in absurd (cc (never))
  by_error NoFreePlace new reads is other =
      (record now { session = Absent }, refused NoFreePlace comes (subst (λ s. CantOpen {A = A} format s NoFreePlace) at.stands is), (came new reads, refl))
  by_error Device new reads is other =
      let met = read_failed base left old new now.fails_read now.fails_write now.store now.writes at reads in
      (record now { session = Absent; fails_read = false }, failed met.0, (met.1, refl))
  by_error Memory new reads is other = absurd (other refl)

  pub opening_line : (answer : Answer A) (new : Holds) → OpensHolds format old answer new → IsLine answer new
  opening_line answer (ASession new) (begun, is) = subst (λ a. IsLine a (ASession new)) (sym is) (session_opened new begun)
  opening_line answer (ADevice new) opening = subst (λ a. IsLine a (ADevice new)) (sym opening.answers)
      (by_error opening.error new opening.device (opening.refused at.honest) opening.not_memory)

-- a stop, whose opening meets an order to fail a read
module _ (A : Type 0) (format : Meaning) (movable : IsMovable format) (base left : ℕ) (old : DeviceState) (now : Moment)
    (at : IsDeviceAt base left old now.fails_read now.fails_write now.store now.writes) where
  abbrev IsStop : Answer A → Holds → Type 0
  IsStop answer new = (next : Moment) × Stops format now answer next × IsAt format base left new next

  pub stop_line : (answer : Answer A) (new : Holds) → OpensToOrder format old answer new → IsStop answer new
  stop_line answer new (inl (met, alone, is)) =
      let reads = met_reads old (device_of new) met in
      let failure = read_failed base left old (device_of new) now.fails_read now.fails_write now.store now.writes at reads in
      subst (λ a. IsStop a new) (sym is) (subst (IsStop Refused) (sym alone)
      (record now { session = Absent; fails_read = false }, failed failure.0, (failure.1, refl)))
  stop_line answer new (inr (none, opens)) =
      opening_line A format movable base left old now at
      (none_fails base left old old now.fails_read now.fails_write now.store now.writes at none) answer new opens

-- the opening before the first event
module _ (A : Type 0) (format : Meaning) (movable : IsMovable format) (base left : ℕ) (store : List (List ℕ)) (old : DeviceState) (at : IsDeviceAt base left old false None store 0) where
  by_line : (answer : Answer A) (next : Moment) → Stops format (first_moment store Absent []) answer next → Begins A format store next
  by_line Stepped next (opened lost writes comes is) = opened lost writes is
  by_line Refused next (failed never) = absurd (cc (never))
  by_line Refused next (refused error comes is) = refused error is
  by_line (Bytes bytes) next line = elim line [ ]
  by_line NoMemory next line = elim line [ ]

  pub begin_line : (answer : Answer A) (new : Holds) → OpensHolds format old answer new → (first : Moment) × Begins A format store first × IsAt format base left new first
  begin_line answer new opening =
      let line = opening_line A format movable base left old (first_moment store Absent []) at refl answer new opening in
      (line.0, by_line answer line.0 line.1, line.2)
