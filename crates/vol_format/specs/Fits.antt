-- What everything that works on a volume asks of a device and a format.
use Rattle.std.specs.Prelude.{◌≡◌}
use Rattle.a2_device.specs.Device.{DeviceState}
use Rattle.vol_format.specs.Meaning.{Meaning}

-- the device's units are as long as the format's, and a volume of the format may have as many
pub record Fits (format : Meaning) (device : DeviceState) : Type 0 where
  pub unit : device.unit_size ≡ format.unit_size
  pub places : format.Takes device.places
