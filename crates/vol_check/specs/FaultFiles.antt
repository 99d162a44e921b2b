-- Of which file a fault is.
use Rattle.std.specs.Prelude.{◌≡◌, ◌≢◌, ◌⊎◌, ◌<◌, ◌++◌, ℕ, true, List, [], Contains}
use Rattle.std.specs.List.{AllZip}
use Rattle.a2_device.specs.declared.part.Part.{Part}
use Rattle.a2_device.specs.declared.fault.Fault.{Fault}
use Rattle.a2_device.specs.declared.fault.Fault.TheVariants.{OutOfRange, StorageType, InSystem, Shared, MarkedFree}
use Rattle.vol_format.specs.declared.link.Link.TheVariants.{Wild, OtherType}
use Rattle.vol_format.specs.Directory.{Directory, entries, entry_of, root_of, is_system, is_free}
use Rattle.vol_format.specs.Meaning.{Meaning, link_from}
use Rattle.vol_format.specs.Reach.{Reach}

-- The faults of a volume, and the numbers of the entries whose files they are of: the first file is that of the first
-- fault. A fault of the header, the directory or the map has none.
pub record FaultList : Type 0 where
  pub faults : List Fault
  pub files : List ℕ

-- a part of this file that stands at this place
pub record StandsAt (format : Meaning) (directory : Directory) (store : List (List ℕ)) (file place : ℕ)
    (part : Part) : Type 0 where
  pub reached : Reach format directory store part
  pub in_file : part.file ≡ file
  pub stands : part.place ≡ place

-- what the entry of this file points to is at fault, or a part of the file is, at the place that the fault gives
abbrev pub FileFaultAt : Meaning → Directory → List (List ℕ) → ℕ → Fault → Type 0
FileFaultAt format directory store file (StorageType place) =
    (file < entries directory) × ((entry_of directory file).place ≡ place) × (root_of directory file ≡ OtherType)
FileFaultAt format directory store file (OutOfRange place) =
    ((file < entries directory) × ((entry_of directory file).place ≡ place) × (root_of directory file ≡ Wild))
    ⊎ ((part : Part) × StandsAt format directory store file place part
    × ((pointer : ℕ) × (link_from format store part pointer ≡ Wild)))
FileFaultAt format directory store file (InSystem place) =
    (part : Part) × StandsAt format directory store file place part × (is_system directory place ≡ true)
FileFaultAt format directory store file (Shared place) =
    (part : Part) × (other : Part) × StandsAt format directory store file place part
    × Reach format directory store other × (other.place ≡ place) × (part ≢ other)
FileFaultAt format directory store file (MarkedFree place) =
    (part : Part) × StandsAt format directory store file place part × (is_free directory place ≡ true)
FileFaultAt format directory store file fault = ⊥

-- a walk over a file has told these faults beside those before, and each is the file's
pub record TellsOf (format : Meaning) (directory : Directory) (store : List (List ℕ)) (file : ℕ)
    (before after : List Fault) : Type 0 where
  pub told : List Fault
  pub behind : after ≡ before ++ told
  pub of_file : (fault : Fault) → Contains told fault → FileFaultAt format directory store file fault

-- Each fault is told with the file that it is of, or each is one of the header, the directory or the map.
abbrev pub AreOfFiles : Meaning → List (List ℕ) → FaultList → Type 0
AreOfFiles format store list =
    ((list.files ≡ []) × ((fault : Fault) → Contains list.faults fault → format.HeaderFaultAt store fault))
    ⊎ ((directory : Directory) × format.Describes store directory
    × AllZip (FileFaultAt format directory store) list.files list.faults)
