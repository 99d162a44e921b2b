-- The image of an empty volume, and why none is made.
use Rattle.std.specs.Prelude.{◌≡◌, ◌≤◌, ◌<◌, ℕ, List, length, map, Option, Some, None}
use Rattle.a2_device.specs.declared.order.Order.{Order}
use Rattle.a2_device.specs.declared.order.Order.TheVariants.{Nibble}
use Rattle.a2_device.specs.Order.{IsImageLength}
use Rattle.a2_device.specs.Device.{unit_at}
use Rattle.a2_image.specs.Converting.{MakesTrack}
use Rattle.a2_image.specs.Image.{DiskImage, HoldsSectors}
use Rattle.a2_image.specs.KeptBytes.{HoldsKept}
use Rattle.a2_image.specs.Tracks.{track_of}
use Rattle.a2_media.specs.ImageDevice.{unit_bytes, units_of}
use Rattle.a2_media.specs.Units.{unit_in}
use Rattle.a2_media.specs.declared.units.UnitKind.{UnitKind}
use Rattle.new_volumes.specs.DosUnits.{empty_sector}
use Rattle.new_volumes.specs.Empty.{IsEmptyVolume}
use Rattle.new_volumes.specs.Fields.{zeros}
use Rattle.new_volumes.specs.ProUnits.{IsEmptyBlock}
use Rattle.new_volumes.specs.Wanted.{CanStand, TakesBoot, Wanted, NewDos, NewPro}
use Rattle.new_volumes.specs.Wanted.{boot_places, kind_of, meaning_of, places_of}
use Rattle.new_volumes.specs.declared.error.NewVolumeError.{NewVolumeError}
use Rattle.new_volumes.specs.declared.error.NewVolumeError.TheVariants.{Length, BootLength, NoSector, Memory, Refused}

-- these bytes are the image, in this order
pub record IsImageOf (order : Order) (bytes : List ℕ) (image : DiskImage) : Type 0 where
  pub long : IsImageLength order (length bytes)
  pub in_order : image.order ≡ order
  pub has_bytes : image.bytes ≡ bytes
  pub holds : HoldsSectors order bytes image.sectors
  pub keeps : HoldsKept order bytes image.kept

-- the unit at a place behind those that start the machine
abbrev pub IsEmptyUnit : Wanted → ℕ → List ℕ → Type 0
IsEmptyUnit (NewDos number data_disk) place unit = unit ≡ empty_sector number data_disk place
IsEmptyUnit (NewPro blocks name date) place unit = IsEmptyBlock name date blocks place unit

-- one of those that start the machine: of 00s, or that of the image that is copied from, which is in the same order
abbrev pub IsBootUnit : UnitKind → Order → Option (List ℕ) → ℕ → List ℕ → Type 0
IsBootUnit kind order None place unit = unit ≡ zeros (unit_bytes kind)
IsBootUnit kind order (Some boot) place unit =
    (image : DiskImage) × IsImageOf order boot image × (unit_in (units_of kind image) place ≡ Some unit)

-- the units of an empty volume, by place
pub record AreNewUnits (volume : Wanted) (order : Order) (boot : Option (List ℕ)) (units : List (List ℕ)) : Type 0 where
  pub count : length units ≡ places_of volume
  pub copied : (place : ℕ) → place < boot_places volume
      → IsBootUnit (kind_of volume) order boot place (unit_at units place)
  pub empty : (place : ℕ) → boot_places volume ≤ place → place < places_of volume
      → IsEmptyUnit volume place (unit_at units place)

-- These bytes are an image in the order, and its units are those of the empty volume, which is one. In nibble order
-- each track is the one that is made of its sectors, with this volume number.
pub record IsNewImage (volume : Wanted) (order : Order) (number : ℕ) (boot : Option (List ℕ)) (bytes : List ℕ) :
    Type 0 where
  pub can_stand : CanStand volume order
  pub boot_fits : TakesBoot (kind_of volume) order boot
  pub image : DiskImage
  pub is : IsImageOf order bytes image
  pub units : List (List ℕ)
  pub stand : units_of (kind_of volume) image ≡ map Some units
  pub are : AreNewUnits volume order boot units
  pub empty : IsEmptyVolume (meaning_of volume) units
  pub tracks : order ≡ Nibble → (track : ℕ) → track < 35 → MakesTrack (track_of bytes track) number track image.sectors

-- the image that is copied from lacks one of the units that start the machine
abbrev pub LacksBootUnit : UnitKind → ℕ → Order → Option (List ℕ) → Type 0
LacksBootUnit kind count order None = ⊥
LacksBootUnit kind count order (Some boot) =
    (image : DiskImage) × IsImageOf order boot image
    × ((place : ℕ) × (place < count) × (unit_in (units_of kind image) place ≡ None))

-- Why no image is made. The length of the volume comes first and that of the image that is copied from second;
-- `Refused` is told only where the units that were to be made are no empty volume.
abbrev pub RefusesNew : Wanted → Order → Option (List ℕ) → NewVolumeError → Type 0
RefusesNew volume order boot Length = ¬ CanStand volume order
RefusesNew volume order boot BootLength = CanStand volume order × ¬ TakesBoot (kind_of volume) order boot
RefusesNew volume order boot NoSector =
    CanStand volume order × TakesBoot (kind_of volume) order boot
    × LacksBootUnit (kind_of volume) (boot_places volume) order boot
RefusesNew volume order boot Memory = CanStand volume order × TakesBoot (kind_of volume) order boot
RefusesNew volume order boot Refused =
    CanStand volume order × TakesBoot (kind_of volume) order boot
    × ((units : List (List ℕ)) × AreNewUnits volume order boot units × ¬ IsEmptyVolume (meaning_of volume) units)
