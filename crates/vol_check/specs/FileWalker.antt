-- A walk over one file after the other.
use Rattle.std.specs.Prelude.{◌≡◌, ◌≢◌, ℕ, List, length}
use Rattle.a2_device.specs.Device.{DeviceState}
use Rattle.a2_device.specs.declared.fault.Fault.{Fault}
use Rattle.a2_device.specs.declared.part.Part.{Part}
use Rattle.vol_format.specs.Accepted.{IsAccepted}
use Rattle.vol_format.specs.Directory.{Directory, root_of}
use Rattle.vol_format.specs.Meaning.{Meaning}
use Rattle.vol_format.specs.Reach.{IsPartsOf}
use Rattle.vol_format.specs.declared.link.Link.TheVariants.{Null}
use Rattle.vol_check.specs.Marks.{HasOwnMarks}
use Rattle.vol_check.specs.Walk.{lists}
use Rattle.vol_check.specs.declared.file_walker.FileWalker.{FileWalker}

-- the parts and the faults of the last file that was walked
abbrev pub parts_of : {A : Type 0} → FileWalker A → List Part
parts_of walker = walker.walk.parts.items

abbrev pub faults_of : {A : Type 0} → FileWalker A → List Fault
faults_of walker = walker.walk.faults.items

-- no entry but this one points to anything
abbrev pub HasOneRoot : Directory → ℕ → Type 0
HasOneRoot directory file = (other : ℕ) → other ≢ file → root_of directory other ≡ Null

-- tables for the places of a device, marked by the last walk alone, and room for a unit
pub record HasTables {A : Type 0} (device : DeviceState) (walker : FileWalker A) : Type 0 where
  pub marks : HasOwnMarks device.places (lists walker.walk)
  pub unit : length walker.unit.items ≡ device.unit_size

-- the volume is accepted, and these are its parts
pub record IsFaultlessFile (format : Meaning) (directory : Directory) (store : List (List ℕ))
    (parts : List Part) : Type 0 where
  pub accepted : IsAccepted format directory store
  pub are_parts : IsPartsOf format directory store parts
