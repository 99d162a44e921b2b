-- Orders to fail are met in time, whatever is called in between.
use Rattle.std.specs.Prelude.{◌≡◌, ℕ, ◌+◌, ◌-◌, Bool, Option, Some, None, min, unwrap_or}
use Rattle.std.proofs.Common.{refl, ap, arith}
use Rattle.a2_device.specs.Device.{DeviceState, last_count}
use Rattle.a2_device.specs.Orders.{with_orders}
use Rattle.event_replay.specs.Orders.{MeetsOrders, NoneTried, since}
use Rattle.event_replay.specs.Unfailing.{unfailing}

module _ (read_order : Bool) (own own_faults : ℕ) (failed : Bool) (device : DeviceState) (at : ℕ) where
  abbrev ordered : Option Bool → DeviceState
  ordered order = with_orders read_order order own own_faults (unfailing failed device)

  never_out : (order : Option Bool) → (since at (ordered order)).passes ≡ Some 0 → ⊥
  never_out order none =
      let gone : at + last_count + 1 - min (device.writes + own) last_count ≡ 0 =
      ap (λ (n : Option ℕ). unwrap_or n 0) none in
      omega (arith, gone)

  pub orders_are_met : (order : Option Bool) → NoneTried (ordered order).honest order at (ordered order).writes
      → MeetsOrders (since at (ordered order))
  orders_are_met None none = record {
    passes = never_out None;
    none_tried = λ honest took failures. absurd (cc (failures));
  }
  orders_are_met (Some told) none = record {
    passes = never_out (Some told);
    none_tried = λ honest took failures.
        let tried : min (device.writes + own) last_count ≡ at = none honest refl in
        let left : at + last_count + 1 - min (device.writes + own) last_count ≡ last_count + 1 = omega (arith, tried) in
        ap Some left;
  }
