-- Failures that were ordered, and that are met before another call of their kind comes through.
use Rattle.std.specs.Prelude.{◌≡◌, ◌≢◌, ℕ, ◌+◌, ◌-◌, Bool, true, false, [], ◌∷◌, Option, Some, None, IsTrue}
use Rattle.a2_device.specs.Device.{DeviceState, counted, last_count}

-- A device that tells when a write was ordered to fail last: `at` is its count of writes then. After that one it passes
-- on one write more than it can count.
abbrev pub since : ℕ → DeviceState → DeviceState
since at device = record device { passes = Some (at + last_count + 1 - device.writes) }

-- a device whose next read, or whose next write, is to fail
abbrev pub read_ordered : DeviceState → DeviceState
read_ordered device = record device { read_failures = Some 1 }

abbrev pub write_ordered : Bool → DeviceState → DeviceState
write_ordered took device = record device { write_failures = Some (took ∷ []); passes = Some (last_count + 1) }

-- no read is ordered to fail
abbrev pub HasNoReadOrder : DeviceState → Type 0
HasNoReadOrder device = device.read_failures ≡ Some 0

-- a read was ordered to fail, and that order is met, which counts as a refusal
pub record HasMetRead (old new : DeviceState) : Type 0 where
  pub ordered : old.read_failures ≡ Some 1
  pub is : new ≡ record old { faults = counted old.faults; read_failures = Some 0 }

abbrev pub is_ordered : Option Bool → Bool
is_ordered None = false
is_ordered (Some took) = true

-- while a write is ordered to fail over an honest device, none has been tried since it was
abbrev pub NoneTried : Bool → Option Bool → ℕ → ℕ → Type 0
NoneTried honest order at writes = IsTrue honest → IsTrue (is_ordered order) → writes ≡ at

-- A device that never runs out of writes to pass on; and while a write is ordered to fail, none has come through since.
pub record MeetsOrders (device : DeviceState) : Type 0 where
  pub passes : device.passes ≢ Some 0
  pub none_tried : IsTrue device.honest → (took : Bool) → device.write_failures ≡ Some (took ∷ [])
      → device.passes ≡ Some (last_count + 1)
