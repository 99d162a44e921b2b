-- Devices over another one: with failures that were ordered, and with a stop.
use Rattle.std.specs.Prelude.{ℕ, min, ◌+◌, Bool, true, false, List, [], ◌∷◌, Option, Some, None}
use Rattle.a2_device.specs.Device.{DeviceState, IsSameDevice, KeepsUnits, last_count}

-- one read more to fail
abbrev pub with_read_order : Bool → Option ℕ → Option ℕ
with_read_order true (Some n) = Some (n + 1)
with_read_order true None = None
with_read_order false failures = failures

-- the next write to fail; over a device with failures of its own there is no bound
abbrev pub with_write_order : Option Bool → Option (List Bool) → Option (List Bool)
with_write_order None failures = failures
with_write_order (Some took) (Some []) = Some (took ∷ [])
with_write_order (Some took) failures = None

-- a device with writes and refusals of a wrapper's own
abbrev pub counting : ℕ → ℕ → DeviceState → DeviceState
counting writes faults device = record device {
  writes = min (device.writes + writes) last_count;
  faults = min (device.faults + faults) last_count;
}

-- a device over which failures are ordered
abbrev pub with_orders : Bool → Option Bool → ℕ → ℕ → DeviceState → DeviceState
with_orders read_order write_order writes faults device = record (counting writes faults device) {
  read_failures = with_read_order read_order device.read_failures;
  write_failures = with_write_order write_order device.write_failures;
}

-- the writes that a device passes on that itself passes so many on to another one
abbrev pub at_most : ℕ → Option ℕ → Option ℕ
at_most passes None = Some passes
at_most passes (Some n) = Some (min passes n)

-- a device that passes so many writes on to another one
abbrev pub stopped : ℕ → ℕ → ℕ → DeviceState → DeviceState
stopped passes writes faults device = record (counting writes faults device) { passes = at_most passes device.passes }

-- two devices of the same units
pub record HasSameUnits (outer inner : DeviceState) : Type 0 where
  pub same : IsSameDevice outer inner
  pub units : KeepsUnits outer inner
