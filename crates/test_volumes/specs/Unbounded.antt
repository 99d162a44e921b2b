-- A device of which it is not said how many calls fail.
use Rattle.std.specs.Prelude.{None}
use Rattle.a2_device.specs.Device.{DeviceState}

-- the same device, with no bound on the failures to come
abbrev pub unbounded : DeviceState → DeviceState
unbounded device = record device { read_failures = None; write_failures = None }
