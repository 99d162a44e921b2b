-- Writes that fit a device.
use Rattle.std.specs.Prelude.{List}
use Rattle.a2_device.specs.Device.{DeviceState}
use Rattle.edit_formats.specs.Prepared.{AreOfSize, GoBelow}
use Rattle.edit_formats.specs.declared.writes.Prepared.{Prepared}

-- writes for a device: each goes to one of its places, and is as long as its units
pub record AreWritesFor {A : Type 0} (device : DeviceState) (writes : List (Prepared A)) : Type 0 where
  pub inside : GoBelow device.places writes
  pub sizes : AreOfSize device.unit_size writes
