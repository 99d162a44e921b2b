-- The bytes of the image under a device.
use Rattle.std.specs.Prelude.{◌≡◌, ℕ, List, Some, length}
use Rattle.a2_device.specs.Device.{DeviceState, ImageForm}
use Rattle.a2_image.specs.Blocks.{blocks}
use Rattle.a2_image.specs.Image.{DiskImage, HoldsSectors}
use Rattle.a2_image.specs.KeptBytes.{HoldsKept}
use Rattle.a2_media.specs.DosPlaces.{sectors_by_place}
use Rattle.a2_media.specs.ImageDevice.{AreUnitsOf}

-- the units of a device are those of an image
abbrev pub AreUnitsIn : DeviceState → DiskImage → Type 0
AreUnitsIn device image =
    (device.unit_size ≡ 256 → AreUnitsOf device (sectors_by_place image.sectors))
    × (device.unit_size ≡ 512 → AreUnitsOf device (blocks image))

-- these bytes are an image of the same order and length as that under the device at first, with the units that stand on
-- it now, and each byte that no write may change
abbrev pub AreBytesOf : DeviceState → List ℕ → Type 0
AreBytesOf device bytes =
    (image : DiskImage) × (bytes ≡ image.bytes) × HoldsSectors image.order image.bytes image.sectors
    × HoldsKept image.order image.bytes image.kept
    × (device.image ≡ Some (record { order = image.order; bytes = length image.bytes; kept = image.kept }))
    × AreUnitsIn device image

-- the bytes of the image under a device that no write may change are those of these bytes too
abbrev pub KeepsBytes : DeviceState → List ℕ → Type 0
KeepsBytes device bytes = (form : ImageForm) → device.image ≡ Some form → HoldsKept form.order bytes form.kept
