-- On which devices a session that was paused can go on.
use Rattle.std.specs.Prelude.{◌≡◌, IsTrue}
use Rattle.a2_device.specs.Device.{DeviceState}

-- A device of the same places and units; and where it is honest, so was the one that was handed out, and it has the
-- same store.
pub record CanResume (old new : DeviceState) : Type 0 where
  pub places : new.places ≡ old.places
  pub unit_size : new.unit_size ≡ old.unit_size
  pub honest : IsTrue new.honest → IsTrue old.honest
  pub store : IsTrue new.honest → new.store ≡ old.store
