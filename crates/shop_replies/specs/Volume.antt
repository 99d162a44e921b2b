-- The volume that an image has.
use Rattle.std.specs.Prelude.{◌≡◌, ◌<◌, ◌≤◌, ℕ, Bool, List, length, Contains}
use Rattle.a2_device.specs.declared.order.Order.{Order}
use Rattle.a2_device.specs.declared.order.Order.TheVariants.{Nibble}
use Rattle.a2_image.specs.declared.error.ImageError.{ImageError}
use Rattle.a2_image.specs.declared.error.ImageError.TheVariants as images
use Rattle.a2_device.specs.Order.{IsImageLength}
use Rattle.a2_image.specs.Image.{DiskImage, HoldsSectors}
use Rattle.a2_image.specs.KeptBytes.{HoldsKept}
use Rattle.a2_device.specs.Device.{DeviceState}
use Rattle.a2_media.specs.ImageDevice.{image_state}
use Rattle.a2_media.specs.declared.units.UnitKind.{UnitKind}
use Rattle.a2_media.specs.declared.units.UnitKind.TheVariants as kinds
use Rattle.vol_layout.specs.declared.form.PlaceForm.{PlaceForm}
use Rattle.vol_layout.specs.declared.form.PlaceForm.TheVariants as forms
use Rattle.vol_format.specs.Meaning.{Meaning}
use Rattle.dos_format.specs.Dos.{dos_meaning}
use Rattle.pro_format.specs.Pro.{pro_meaning}
use Rattle.shop_jobs.specs.declared.input.FileSystem.{FileSystem}
use Rattle.shop_jobs.specs.declared.input.FileSystem.TheVariants.{Dos, Prodos}
use Rattle.shop_replies.specs.Disk.{disk_bytes}

-- DOS 3.3 has sectors and ProDOS blocks, and so are their places named
abbrev pub kind_of : FileSystem → UnitKind
kind_of Dos = kinds.Sector
kind_of Prodos = kinds.Block

abbrev pub form_of : FileSystem → PlaceForm
form_of Dos = forms.Sector
form_of Prodos = forms.Block

-- what the units mean, where these places are reserved; a data disk has files on tracks 1 and 2, in DOS 3.3 alone
abbrev pub meaning_of : FileSystem → Bool → List Bool → Meaning
meaning_of Dos data_disk reserved = dos_meaning data_disk reserved
meaning_of Prodos data_disk reserved = pro_meaning reserved

-- an image in this order may have so many bytes: those of a disk, or in ProDOS those of 16 to 65,535 blocks
abbrev pub TakesBytes : FileSystem → Order → ℕ → Type 0
TakesBytes Dos order bytes = bytes ≡ disk_bytes order
TakesBytes Prodos order bytes = IsImageLength order bytes

-- these bytes are the image, in this order
pub record IsImageOf (order : Order) (bytes : List ℕ) (image : DiskImage) : Type 0 where
  pub in_order : image.order ≡ order
  pub has_bytes : image.bytes ≡ bytes
  pub holds : HoldsSectors order bytes image.sectors
  pub keeps : HoldsKept order bytes image.kept

-- the units that an image has for a file system, as a device
abbrev pub device_of : FileSystem → DiskImage → DeviceState
device_of file_system image = image_state (kind_of file_system) image 0 0 0

-- the device has the sectors of a disk, or 16 to 65,535 blocks
abbrev pub HasUnitsOf : FileSystem → DeviceState → Type 0
HasUnitsOf Dos device = (device.unit_size ≡ 256) × (device.places ≡ 560)
HasUnitsOf Prodos device = (device.unit_size ≡ 512) × (16 ≤ device.places) × (device.places < 65536)

-- a unit can't be read
abbrev pub LacksUnit : DeviceState → Type 0
LacksUnit device = (place : ℕ) × Contains device.unreadable place

-- an image in this order has these bytes, and of its units this is said
abbrev pub OfVolume : FileSystem → Order → List ℕ → (DeviceState → Type 0) → Type 0
OfVolume file_system order bytes P =
    TakesBytes file_system order (length bytes) × (image : DiskImage) × IsImageOf order bytes image
    × P (device_of file_system image)

-- why these bytes are not taken as an image
abbrev pub RefusesBytes : FileSystem → Order → ℕ → ImageError → Type 0
RefusesBytes file_system order bytes images.Length = ¬ TakesBytes file_system order bytes
RefusesBytes file_system order bytes images.Memory = order ≡ Nibble
RefusesBytes file_system order bytes images.Number = ⊥
RefusesBytes file_system order bytes images.NoSector = ⊥
