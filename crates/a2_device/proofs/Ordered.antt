-- A write under the orders of a device over another one.
use Rattle.std.proofs.Common.{◌≡◌, ◌≢◌, ℕ, ◌+◌, Bool, true, false, List, [], ◌∷◌, Some, None, ◌∙◌, ap, arith, inl, inr, ⊎_elim}
use Rattle.std.specs.Prelude.{Option, Result, Ok, Err, OnOk, min, if◌then◌else◌}
use Rattle.std.proofs.lemmas.Bool.Decides.{nat_tests}
use Rattle.a2_device.specs.declared.device.DeviceError.{DeviceError}
use Rattle.a2_device.specs.declared.device.DeviceError.TheVariants.{Fault, Spent}
use Rattle.a2_device.specs.Device.{DeviceState, FailsWrite, UsesWrite, counted, faults_after, last_count, one_fewer, written, writes_after}
use Rattle.a2_device.specs.Orders.{with_orders, with_write_order}
use Rattle.a2_device.specs.Writes.{Writes}

more_writes : (n own : ℕ) → min (n + own) last_count ≢ last_count → min (n + 1 + own) last_count ≡ min (n + own) last_count + 1
more_writes n own room = omega (arith, room)

more_faults : (n own : ℕ) → min (counted n + own) last_count ≡ counted (min (n + own) last_count)
more_faults n own = grind (arith, nat_tests)

-- the counts of a device over another one, after a call that was passed on
faults_kept : {T : Type 0} (result : Result T DeviceError) (old new own : ℕ) → new ≡ faults_after result old → min (new + own) last_count ≡ faults_after result (min (old + own) last_count)
faults_kept (Ok value) old new own is = ap (λ n. min (n + own) last_count) is
faults_kept (Err error) old new own is = ap (λ n. min (n + own) last_count) is ∙ more_faults old own

writes_kept : {T : Type 0} (result : Result T DeviceError) (old new own : ℕ) → min (old + own) last_count ≢ last_count → new ≡ writes_after result old
    → min (new + own) last_count ≡ writes_after result (min (old + own) last_count)
writes_kept (Ok value) old new own room is = ap (λ n. min (n + own) last_count) is ∙ more_writes old own room
writes_kept (Err Spent) old new own room is = ap (λ n. min (n + own) last_count) is
writes_kept (Err Fault) old new own room is = ap (λ n. min (n + own) last_count) is ∙ more_writes old own room

-- a failure to come, under an order
pub used : (took : Bool) (failures after : Option (List Bool)) → UsesWrite failures took after → UsesWrite (with_write_order (Some true) failures) took (with_write_order (Some true) after)
used took None after uses = tt
used took (Some []) after (rest, is, left) = absurd (cc)
used took (Some (first ∷ orders)) after uses = tt

module _ (read_order : Bool) (order : Option Bool) (own own_faults place : ℕ) (unit : List ℕ) (old new : DeviceState) (room : min (old.writes + own) last_count ≢ last_count)
    (uses : (took : Bool) → UsesWrite old.write_failures took new.write_failures → UsesWrite (with_write_order order old.write_failures) took (with_write_order order new.write_failures)) where
  abbrev outer : DeviceState → DeviceState
  outer = with_orders read_order order own own_faults

  abbrev with_counts : DeviceState → ℕ → ℕ → DeviceState
  with_counts device n m = record device { writes = n; faults = m }

  -- one write and one refusal more
  counts : (device : DeviceState) → with_counts device (min (old.writes + 1 + own) last_count) (min (counted old.faults + own_faults) last_count)
      ≡ with_counts device (min (old.writes + own) last_count + 1) (counted (min (old.faults + own_faults) last_count))
  counts device =
      ap (λ (n : ℕ). with_counts device n (min (counted old.faults + own_faults) last_count)) (more_writes old.writes own room)
      ∙ ap (λ (m : ℕ). with_counts device (min (old.writes + own) last_count + 1) m) (more_faults old.faults own_faults)

  failed : (took : Bool) → outer (record (if took then written place unit old else (record old { writes = old.writes + 1; passes = new.passes })) {
    faults = counted old.faults;
    write_failures = new.write_failures;
  }) ≡ record (if took then written place unit (outer old) else (record (outer old) { writes = (outer old).writes + 1; passes = new.passes })) {
    faults = counted (outer old).faults;
    write_failures = (outer new).write_failures;
  }
  failed true = counts (record (written place unit (outer old)) { write_failures = (outer new).write_failures })
  failed false = counts (record (outer old) { passes = new.passes; write_failures = (outer new).write_failures })

  failed_under_order : FailsWrite place unit old new → FailsWrite place unit (outer old) (outer new)
  failed_under_order = ⊎_elim
      (λ met. inl (met.0, uses met.0 met.1, met.2, ap outer met.3 ∙ failed met.0))
      (λ closed. inr (closed.0, ap outer closed.1 ∙ counts (record (outer old) { passes = one_fewer old.passes })))

  stands : {T : Type 0} (result : Result T DeviceError) → OnOk result (new ≡ written place unit old) → OnOk result (outer new ≡ written place unit (outer old))
  stands (Ok value) is = ap outer is ∙ ap (λ (n : ℕ). record (written place unit (outer old)) { writes = n }) (more_writes old.writes own room)
  stands (Err error) is = tt

  -- a write that was passed on, where the device did not come to its last count
  pub passed : {T : Type 0} (result : Result T DeviceError) → Writes place unit result old new → Writes place unit result (outer old) (outer new)
  passed result w = record {
    same = record { places = w.same.places; unit_size = w.same.unit_size; image = w.same.image; honest = w.same.honest; unreadable = w.same.unreadable };
    faults = faults_kept result old.faults new.faults own_faults w.faults;
    writes = λ honest. writes_kept result old.writes new.writes own room (w.writes honest);
    spent = λ honest. (λ is. absurd (room (at_last ((w.spent honest).0 is))), λ last. absurd (room last));
    spent_keeps = λ honest is. absurd (room (at_last ((w.spent honest).0 is)));
    written = λ honest. stands result (w.written honest);
    closed = w.closed;
    closed_keeps = λ honest closed. let kept = w.closed_keeps honest closed in record { store = kept.store; standing = kept.standing };
    failed = λ honest is. failed_under_order (w.failed honest is);
  }
    where
      at_last : old.writes ≡ last_count → min (old.writes + own) last_count ≡ last_count
      at_last is = omega (arith, is)
