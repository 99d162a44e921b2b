-- What is found of an image in one way to read it.
use Rattle.std.specs.Prelude.{◌≡◌, ◌⊎◌, ◌==◌, ℕ, false, if◌then◌else◌, List, [], length}
use Rattle.a2_device.specs.Device.{DeviceState}
use Rattle.dos_catalog.specs.Catalog.{IsCatalog}
use Rattle.pro_dir.specs.Volume.{Directory as Tree, Describes}
use Rattle.vol_format.specs.Accepted.{IsAccepted}
use Rattle.vol_format.specs.Directory.{Directory, entries, files}
use Rattle.vol_format.specs.Meaning.{Meaning}
use Rattle.vol_format.specs.Reach.{IsPartsOf}
use Rattle.vol_format.specs.Standing.{lost_places}
use Rattle.a2_device.specs.declared.fault.Fault.{Fault}
use Rattle.a2_device.specs.declared.fault.Fault.TheVariants.{Geometry}
use Rattle.a2_device.specs.declared.part.Part.{Part}
use Rattle.shop_jobs.specs.declared.input.FileSystem.{FileSystem}
use Rattle.shop_jobs.specs.declared.input.FileSystem.TheVariants.{Dos, Prodos}
use Rattle.shop_replies.specs.Volume.{LacksUnit, OfVolume, meaning_of}
use Rattle.image_readings.specs.declared.reading.Standing.{Standing}
use Rattle.image_readings.specs.declared.reading.Standing.TheVariants.{Accepted, Refused}
use Rattle.image_readings.specs.declared.reading.Found.{Found}
use Rattle.image_readings.specs.declared.reading.Finding.{Finding}
use Rattle.image_readings.specs.declared.reading.Finding.TheVariants.{Unreadable, Broken, Volume}
use Rattle.image_readings.specs.declared.reading.Reading.{Reading}

-- what the units mean where the words reserve no place and name no data disk
abbrev pub plain_meaning : FileSystem → Meaning
plain_meaning file_system = meaning_of file_system false []

-- how many units the directory has: the sectors of the catalog, or the blocks of all directories
abbrev pub HasUnits : FileSystem → List (List ℕ) → ℕ → Type 0
HasUnits Dos store count = (sectors : List ℕ) × IsCatalog store sectors × (count ≡ length sectors)
HasUnits Prodos store count = (tree : Tree) × Describes store tree × (count ≡ length tree.blocks)

-- so many entries are in use
abbrev pub HasEntries : Meaning → List (List ℕ) → ℕ → Type 0
HasEntries format store count = (directory : Directory) × format.Describes store directory × (count ≡ entries directory)

-- an accepted volume with so many files and lost places
pub record IsSound (format : Meaning) (store : List (List ℕ)) (file_count lost_count : ℕ) : Type 0 where
  pub directory : Directory
  pub accepted : IsAccepted format directory store
  pub file_count_is : file_count ≡ length (files directory)
  pub parts : List Part
  pub parts_are : IsPartsOf format directory store parts
  pub lost_count_is : lost_count ≡ length (lost_places directory parts)

-- A volume is accepted, with so many files and lost places; or it is not, or a unit of it can't be read.
abbrev pub Stands : Meaning → DeviceState → Standing → Type 0
Stands format device (Accepted file_count lost_count) = IsSound format device.store file_count lost_count
Stands format device Refused = ((directory : Directory) → ¬ IsAccepted format directory device.store) ⊎ LacksUnit device

-- where the header of a volume stands: the VTOC of DOS 3.3, or the key block of the ProDOS volume's directory
abbrev pub header_place : FileSystem → ℕ
header_place Dos = 272
header_place Prodos = 2

-- What is found where the header, the directory or the map's pointer has a fault: a volume whose own header has another
-- geometry is none, and with any other fault it is broken.
abbrev pub finding_of : FileSystem → Fault → Finding
finding_of file_system (Geometry place) = if place == header_place file_system then Unreadable else Broken
finding_of file_system fault = Broken

-- nothing is found but a fault, or a unit can't be read
abbrev pub IsNoVolume : FileSystem → DeviceState → Finding → Type 0
IsNoVolume file_system device finding =
    ((fault : Fault) × (plain_meaning file_system).HeaderFaultAt device.store fault
    × (finding ≡ finding_of file_system fault))
    ⊎ (LacksUnit device × (finding ≡ Unreadable))

-- what is found of a volume
pub record IsFound (file_system : FileSystem) (device : DeviceState) (found : Found) : Type 0 where
  pub has_entries : HasEntries (plain_meaning file_system) device.store found.entries
  pub has_units : HasUnits file_system device.store found.units
  pub stands : Stands (plain_meaning file_system) device found.standing

abbrev pub IsToldOf : FileSystem → DeviceState → Finding → Type 0
IsToldOf file_system device (Volume found) = IsFound file_system device found
IsToldOf file_system device finding = IsNoVolume file_system device finding

-- what is found in an image that is read in this way
abbrev pub IsReadingOf : List ℕ → Reading → Type 0
IsReadingOf image reading = OfVolume reading.file_system reading.order image
    (λ device. IsToldOf reading.file_system device reading.finding)
