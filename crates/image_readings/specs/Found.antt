-- Why nothing is found of a volume.
use Rattle.a2_device.specs.Device.{DeviceState}
use Rattle.vol_format.specs.Meaning.{Meaning}
use Rattle.a2_device.specs.declared.fault.WalkError.{WalkError}
use Rattle.a2_device.specs.declared.fault.WalkError.TheVariants as walks
use Rattle.shop_replies.specs.Volume.{LacksUnit}

-- what a walk over a directory stops for: a fault that is there, or a unit that can't be read
abbrev pub Stops : Meaning → DeviceState → WalkError → Type 0
Stops format device (walks.Fault fault) = format.HeaderFaultAt device.store fault
Stops format device walks.Device = LacksUnit device
Stops format device walks.Memory = Unit {0}
