-- What an empty volume is to be, as contracts see it, and in which images it can stand.
use Rattle.std.specs.Prelude.{◌≡◌, ◌≤◌, ℕ, Bool, List, [], length, Option, Some, None}
use Rattle.a2_device.specs.declared.order.Order.{Order}
use Rattle.a2_device.specs.declared.order.Order.TheVariants.{Dos, Prodos, Nibble}
use Rattle.a2_device.specs.Order.{IsImageLength, blocks_of}
use Rattle.a2_media.specs.declared.units.UnitKind.{UnitKind}
use Rattle.a2_media.specs.declared.units.UnitKind.TheVariants as kinds
use Rattle.vol_format.specs.Meaning.{Meaning}
use Rattle.dos_format.specs.Dos.{dos_meaning}
use Rattle.pro_format.specs.Pro.{pro_meaning}
use Rattle.new_volumes.specs.declared.new_volume.NewVolume.{NewVolume}
use Rattle.new_volumes.specs.declared.new_volume.NewVolume.TheVariants as volumes

-- a DOS 3.3 disk with its volume number and whether it is a data disk, or a ProDOS volume with how many blocks it has,
-- its name and the four bytes of its date
pub data Wanted : Type 0 where
  NewDos : ℕ → Bool → Wanted
  NewPro : ℕ → List ℕ → List ℕ → Wanted

abbrev pub wanted : NewVolume → Wanted
wanted (volumes.Dos number data_disk) = NewDos number data_disk
wanted (volumes.Prodos blocks name date) = NewPro blocks name.now date.0

-- a name has 1 to 15 bytes
abbrev pub IsNamed : Wanted → Type 0
IsNamed (NewDos number data_disk) = Unit {0}
IsNamed (NewPro blocks name date) = (1 ≤ length name) × (length name ≤ 15)

-- what its units are, how many it has, and how many of the first of them are for what starts the machine: tracks 0
-- to 2, or blocks 0 and 1
abbrev pub kind_of : Wanted → UnitKind
kind_of (NewDos number data_disk) = kinds.Sector
kind_of (NewPro blocks name date) = kinds.Block

abbrev pub places_of : Wanted → ℕ
places_of (NewDos number data_disk) = 560
places_of (NewPro blocks name date) = blocks

abbrev pub boot_places : Wanted → ℕ
boot_places (NewDos number data_disk) = 48
boot_places (NewPro blocks name date) = 2

-- what its units mean; no place is kept for the system by the owner
abbrev pub meaning_of : Wanted → Meaning
meaning_of (NewDos number data_disk) = dos_meaning data_disk []
meaning_of (NewPro blocks name date) = pro_meaning []

-- an image in this order can have so many blocks: the 280 of a disk, but in ProDOS order any from 16 on
abbrev pub HasBlocks : Order → ℕ → Type 0
HasBlocks Dos blocks = blocks ≡ 280
HasBlocks Prodos blocks = 16 ≤ blocks
HasBlocks Nibble blocks = blocks ≡ 280

-- an image in this order can have the volume
abbrev pub CanStand : Wanted → Order → Type 0
CanStand (NewDos number data_disk) order = Unit {0}
CanStand (NewPro blocks name date) order = HasBlocks order blocks

-- an image in this order with so many bytes has units of this kind to copy: a disk's sectors, or blocks
abbrev pub TakesBytes : UnitKind → Order → ℕ → Type 0
TakesBytes kinds.Sector order bytes = IsImageLength order bytes × (blocks_of order bytes ≡ 280)
TakesBytes kinds.Block order bytes = IsImageLength order bytes

-- the image that is copied from, if one is given, has them
abbrev pub TakesBoot : UnitKind → Order → Option (List ℕ) → Type 0
TakesBoot kind order None = Unit {0}
TakesBoot kind order (Some boot) = TakesBytes kind order (length boot)
