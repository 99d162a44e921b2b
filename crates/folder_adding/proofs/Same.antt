-- What is the same of a device.
use Rattle.std.proofs.Common.{◌∙◌}
use Rattle.a2_device.specs.Device.{DeviceState, IsSameDevice}

-- two devices one after the other are the same
pub same_on : (old mid new : DeviceState) → IsSameDevice old mid → IsSameDevice mid new → IsSameDevice old new
same_on old mid new first then = record {
  places = then.places ∙ first.places;
  unit_size = then.unit_size ∙ first.unit_size;
  image = then.image ∙ first.image;
  honest = then.honest ∙ first.honest;
  unreadable = then.unreadable ∙ first.unreadable;
}
