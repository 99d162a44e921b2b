-- An image whose units stand one behind the other, and the same in another order.
use Rattle.std.specs.Prelude.{◌≡◌, ◌<◌, ◌*◌, ℕ, List, length, Option}
use Rattle.a2_device.specs.declared.order.Order.{Order}
use Rattle.a2_device.specs.declared.order.Order.TheVariants.{Nibble}
use Rattle.a2_image.specs.Converting.{MakesTrack}
use Rattle.a2_image.specs.Image.{DiskImage}
use Rattle.a2_image.specs.Tracks.{track_of}
use Rattle.a2_media.specs.FileDevice.{file_units}
use Rattle.a2_media.specs.ImageDevice.{HasUnits, unit_bytes, units_of}
use Rattle.a2_media.specs.declared.units.UnitKind.{UnitKind}
use Rattle.new_volumes.specs.NewImage.{AreNewUnits, IsImageOf}
use Rattle.new_volumes.specs.Wanted.{Wanted, kind_of, places_of}
use Rattle.a2_image.specs.declared.error.ImageError.{ImageError}
use Rattle.a2_image.specs.declared.error.ImageError.TheVariants as images
use Rattle.new_volumes.specs.declared.error.NewVolumeError.{NewVolumeError}
use Rattle.new_volumes.specs.declared.error.NewVolumeError.TheVariants.{Memory, Refused}

-- so many bytes, which are the units of the empty volume
pub record IsPlain (volume : Wanted) (order : Order) (boot : Option (List ℕ)) (bytes : List ℕ) : Type 0 where
  pub long : length bytes ≡ unit_bytes (kind_of volume) * places_of volume
  pub are : AreNewUnits volume order boot (file_units (unit_bytes (kind_of volume)) (places_of volume) bytes)

-- an image in an order with the units of another
pub record IsInOrder (image : DiskImage) (order : Order) (number : ℕ) (bytes : List ℕ) : Type 0 where
  pub made : DiskImage
  pub is : IsImageOf order bytes made
  pub units : (kind : UnitKind) → HasUnits kind image → units_of kind made ≡ units_of kind image
  pub tracks : order ≡ Nibble → (track : ℕ) → track < 35 → MakesTrack (track_of bytes track) number track made.sectors

-- what is told of an image that is not put into another order
abbrev pub error_of : ImageError → NewVolumeError
error_of images.Memory = Memory
error_of images.Length = Refused
error_of images.Number = Refused
error_of images.NoSector = Refused
