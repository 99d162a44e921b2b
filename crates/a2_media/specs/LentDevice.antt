-- The device over the sectors or the blocks of an image that is lent.
use Rattle.std.specs.Prelude.{ℕ, Some}
use Rattle.a2_image.specs.Image.{DiskImage}
use Rattle.a2_device.specs.Device.{DeviceState, IsWhole}
use Rattle.a2_media.specs.declared.units.UnitKind.{UnitKind}
use Rattle.a2_media.specs.ImageDevice.{image_state, place_count, unit_bytes, units_of, whole_image}
use Rattle.a2_media.specs.Units.{AreUnits}

-- An image by place, after so many writes, each of which was refused, and so many faults: no write is passed on, and
-- none stands.
abbrev pub lent_state : UnitKind → DiskImage → ℕ → ℕ → DeviceState
lent_state kind image writes faults = record (image_state kind image writes 0 faults) { passes = Some 0 }

-- each place has a unit
pub whole_lent : (kind : UnitKind) (image : DiskImage) (writes faults : ℕ)
    → AreUnits (unit_bytes kind) (place_count kind image) (units_of kind image)
    → IsWhole (lent_state kind image writes faults)
whole_lent kind image writes faults are =
    let whole = whole_image kind image writes 0 faults are in
    record { all = whole.all; units = whole.units }
