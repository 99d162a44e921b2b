-- The device of a replay at a moment, and after what a session does with it.
use Rattle.std.specs.Prelude.{◌≡◌, ◌⊎◌, ◌<◌, ℕ, ◌+◌, Bool, true, false, List, [], length, Option, Some, None, slice_set, unwrap_or, Contains}
use Rattle.std.proofs.Common.{refl, sym, ◌∙◌, ap, subst, arith, inl, inr}
use Rattle.event_replay.specs.Held.{IsDeviceAt, count_of, orders_of}
use Rattle.a2_device.specs.Device.{DeviceState, FailsRead, FailsWrite, IsSameDevice, OnlyReads, UsesRead, UsesWrite, counted, last_count, one_fewer, written}
use Rattle.event_replay.specs.Orders.{HasMetRead, HasNoReadOrder, MeetsOrders}

used_read : (fails : Bool) (old new : Option ℕ) → old ≡ Some (count_of fails) → UsesRead old new → (fails ≡ true) × (new ≡ Some 0)
used_read fails None new is uses = absurd (cc (is))
used_read true (Some n) new is (rest, more, left) =
    let one : n ≡ 1 = cc (is) in
    let none : rest ≡ 0 = omega (arith, one, more) in
    (refl, left ∙ ap Some none)
used_read false (Some n) new is (rest, more, left) = let none : n ≡ 0 = cc (is) in absurd (omega (arith, none, more))

used_write : (fails : Option Bool) (old new : Option (List Bool)) (took : Bool) → old ≡ Some (orders_of fails) → UsesWrite old took new → (fails ≡ Some took) × (new ≡ Some [])
used_write fails None new took is uses = absurd (cc (is))
used_write None (Some orders) new took is (rest, first, left) = absurd (cc (is, first))
used_write (Some told) (Some orders) new took is (rest, first, left) =
    let same : told ≡ took = cc (is, first) in
    let none : rest ≡ [] = cc (is, first) in
    (ap Some same, left ∙ ap Some none)

-- an order to fail a read that is met is a read that failed
pub met_reads : (old new : DeviceState) → HasMetRead old new → OnlyReads true old new
met_reads old new met = record {
  same = subst (IsSameDevice old) (sym met.is)
      (record { places = refl; unit_size = refl; image = refl; honest = refl; unreadable = refl });
  faults = ap (λ (d : DeviceState). d.faults) met.is;
  kept = λ honest came. absurd (cc (came));
  met = λ honest failed. (
    0,
    inl (uses, met.is ∙ ap (λ (n : Option ℕ). record old { faults = counted old.faults; read_failures = n }) (sym none)),
  );
}
  where
    none : new.read_failures ≡ Some 0
    none = ap (λ (d : DeviceState). d.read_failures) met.is

    uses : UsesRead old.read_failures new.read_failures
    uses = subst (λ n. UsesRead n new.read_failures) (sym met.ordered) (0, refl, none)

none_to_fail : (fails : Bool) (failures : Option ℕ) → failures ≡ Some (count_of fails) → failures ≡ Some 0
    → fails ≡ false
none_to_fail false failures is none = refl
none_to_fail true failures is none = absurd (cc (is, none))

none_unreadable : (places : List ℕ) (place : ℕ) → places ≡ [] → Contains places place → ⊥
none_unreadable places place none has = let within : (k : ℕ) × (k < 0) = (has.0, subst (λ (xs : List ℕ). has.0 < length xs) none has.1) in omega (arith, within.1)

module _ (base left : ℕ) (device new : DeviceState) (fails_read : Bool) (fails_write : Option Bool) (store : List (List ℕ)) (writes : ℕ) where
  -- one event less is to come
  pub later : IsDeviceAt base (left + 1) device fails_read fails_write store writes → IsDeviceAt base left device fails_read fails_write store writes
  later at = record {
    honest = at.honest;
    readable = at.readable;
    reads = at.reads;
    orders = at.orders;
    meets = at.meets;
    stands = at.stands;
    standing = at.standing;
    room = omega (arith, at.room);
  }

  -- reads that all came
  pub only_read : IsDeviceAt base left device fails_read fails_write store writes → OnlyReads false device new → new ≡ device
  only_read at reads = reads.kept at.honest refl

  -- no read is to fail where none is ordered to
  pub none_fails : IsDeviceAt base left device fails_read fails_write store writes → HasNoReadOrder device
      → fails_read ≡ false
  none_fails at none = none_to_fail fails_read device.read_failures at.reads none

  -- a read that failed met the failure that was ordered
  pub read_failed : IsDeviceAt base left device fails_read fails_write store writes → OnlyReads true device new
      → (fails_read ≡ true) × IsDeviceAt base left new false fails_write store writes
  read_failed at reads = by_cause (reads.met at.honest refl)
    where
      by_cause : (place : ℕ) × FailsRead place device new → (fails_read ≡ true) × IsDeviceAt base left new false fails_write store writes
      by_cause (place, inl (uses, only)) =
          let used = used_read fails_read device.read_failures new.read_failures at.reads uses in (
            used.0,
            record {
              honest = ap (λ (d : DeviceState). d.honest) only ∙ at.honest;
              readable = ap (λ (d : DeviceState). d.unreadable) only ∙ at.readable;
              reads = used.1;
              orders = ap (λ (d : DeviceState). d.write_failures) only ∙ at.orders;
              meets = subst MeetsOrders (sym only) (record { passes = at.meets.passes; none_tried = at.meets.none_tried });
              stands = ap (λ (d : DeviceState). d.store) only ∙ at.stands;
              standing = ap (λ (d : DeviceState). d.standing) only ∙ at.standing;
              room = let same = ap (λ (d : DeviceState). d.writes) only in omega (arith, same, at.room);
            },
          )
      by_cause (place, inr (has, only)) = absurd (none_unreadable device.unreadable place at.readable has)

  -- a write comes through only where none was ordered to fail
  pub none_ordered : (place : ℕ) (unit : List ℕ) → IsDeviceAt base left device fails_read fails_write store writes → MeetsOrders new
      → new ≡ written place unit device → fails_write ≡ None
  none_ordered place unit at meets only = by_order fails_write refl
    where
      not_one_fewer : Some last_count ≡ Some (last_count + 1) → ⊥
      not_one_fewer same = let numbers : last_count ≡ last_count + 1 = ap (λ (n : Option ℕ). unwrap_or n 0) same in omega (arith, numbers)

      by_order : (order : Option Bool) → fails_write ≡ order → order ≡ None
      by_order None is = refl
      by_order (Some took) is =
          let ordered = at.orders ∙ ap (λ (o : Option Bool). Some (orders_of o)) is in
          let before = at.meets.none_tried at.honest took ordered in
          let after = meets.none_tried (ap (λ (d : DeviceState). d.honest) only ∙ at.honest) took (ap (λ (d : DeviceState). d.write_failures) only ∙ ordered) in
          let fewer = ap (λ (d : DeviceState). d.passes) only ∙ ap one_fewer before in
          absurd (not_one_fewer (sym fewer ∙ after))

  -- a write that stands
  pub has_written : (place : ℕ) (unit : List ℕ) → IsDeviceAt base (left + 1) device fails_read fails_write store writes → MeetsOrders new
      → new ≡ written place unit device → IsDeviceAt base left new fails_read fails_write (slice_set store place unit) (writes + 1)
  has_written place unit at meets only = record {
    honest = ap (λ (d : DeviceState). d.honest) only ∙ at.honest;
    readable = ap (λ (d : DeviceState). d.unreadable) only ∙ at.readable;
    reads = ap (λ (d : DeviceState). d.read_failures) only ∙ at.reads;
    orders = ap (λ (d : DeviceState). d.write_failures) only ∙ at.orders;
    meets = meets;
    stands = ap (λ (d : DeviceState). d.store) only ∙ ap (λ (s : List (List ℕ)). slice_set s place unit) at.stands;
    standing = let same = ap (λ (d : DeviceState). d.standing) only in omega (arith, same, at.standing);
    room = let same = ap (λ (d : DeviceState). d.writes) only in omega (arith, same, at.room);
  }

  -- a write that failed met the failure that was ordered, and its unit stands where that was said
  pub write_failed : (place : ℕ) (unit : List ℕ) → IsDeviceAt base (left + 1) device fails_read fails_write store writes → MeetsOrders new → FailsWrite place unit device new
      → ((fails_write ≡ Some true) × IsDeviceAt base left new fails_read None (slice_set store place unit) (writes + 1))
      ⊎ ((fails_write ≡ Some false) × IsDeviceAt base left new fails_read None store writes)
  write_failed place unit at meets (inr (inl has, only)) = absurd (none_unreadable device.unreadable place at.readable has)
  write_failed place unit at meets (inr (inr none, only)) = absurd (at.meets.passes none)
  write_failed place unit at meets (inl (true, uses, passes, only)) =
      let used = used_write fails_write device.write_failures new.write_failures true at.orders uses in
      inl (
        used.0,
        record {
          honest = ap (λ (d : DeviceState). d.honest) only ∙ at.honest;
          readable = ap (λ (d : DeviceState). d.unreadable) only ∙ at.readable;
          reads = ap (λ (d : DeviceState). d.read_failures) only ∙ at.reads;
          orders = used.1;
          meets = meets;
          stands = ap (λ (d : DeviceState). d.store) only ∙ ap (λ (s : List (List ℕ)). slice_set s place unit) at.stands;
          standing = let same = ap (λ (d : DeviceState). d.standing) only in omega (arith, same, at.standing);
          room = let same = ap (λ (d : DeviceState). d.writes) only in omega (arith, same, at.room);
        },
      )
  write_failed place unit at meets (inl (false, uses, passes, only)) =
      let used = used_write fails_write device.write_failures new.write_failures false at.orders uses in
      inr (
        used.0,
        record {
          honest = ap (λ (d : DeviceState). d.honest) only ∙ at.honest;
          readable = ap (λ (d : DeviceState). d.unreadable) only ∙ at.readable;
          reads = ap (λ (d : DeviceState). d.read_failures) only ∙ at.reads;
          orders = used.1;
          meets = meets;
          stands = ap (λ (d : DeviceState). d.store) only ∙ at.stands;
          standing = let same = ap (λ (d : DeviceState). d.standing) only in omega (arith, same, at.standing);
          room = let same = ap (λ (d : DeviceState). d.writes) only in omega (arith, same, at.room);
        },
      )
