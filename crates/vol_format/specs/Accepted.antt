-- Which volumes are accepted, and what is wrong with the others.
use Rattle.std.specs.Prelude.{◌≡◌, ◌≢◌, ◌⊎◌, ◌<◌, ℕ, true, false, List}
use Rattle.a2_device.specs.declared.part.Part.{Part}
use Rattle.a2_device.specs.declared.fault.Fault.{Fault}
use Rattle.a2_device.specs.declared.fault.Fault.TheVariants.{OutOfRange, StorageType, InSystem, Shared, MarkedFree}
use Rattle.vol_format.specs.declared.link.Link.TheVariants.{Wild, OtherType}
use Rattle.vol_format.specs.Directory.{Directory, entries, entry_of, root_of, is_system, is_free}
use Rattle.vol_format.specs.Meaning.{Meaning, link_from}
use Rattle.vol_format.specs.Reach.{Reach}

-- what is asked of each part: its pointers name places, and it stands at an available place that is marked used
pub record IsSound (format : Meaning) (directory : Directory) (store : List (List ℕ)) (part : Part) : Type 0 where
  pub no_wild : (pointer : ℕ) → link_from format store part pointer ≢ Wild
  pub outside_system : is_system directory part.place ≡ false
  pub marked : is_free directory part.place ≡ false

-- The header, the directory and the map are as the format asks; each entry is of a kind that is read and points to a
-- place or nothing; each part is sound; no two parts stand at one place.
pub record IsAccepted (format : Meaning) (directory : Directory) (store : List (List ℕ)) : Type 0 where
  pub described : format.Describes store directory
  pub no_wild : (file : ℕ) → file < entries directory → root_of directory file ≢ Wild
  pub no_other_type : (file : ℕ) → file < entries directory → root_of directory file ≢ OtherType
  pub sound : (part : Part) → Reach format directory store part → IsSound format directory store part
  pub once : (part other : Part) → Reach format directory store part → Reach format directory store other
      → part.place ≡ other.place → part ≡ other

-- one of these that is broken by a part or an entry, at the place that the fault gives
abbrev pub PartFaultAt : Meaning → Directory → List (List ℕ) → Fault → Type 0
PartFaultAt format directory store (StorageType place) =
    (file : ℕ) × (file < entries directory) × ((entry_of directory file).place ≡ place)
    × (root_of directory file ≡ OtherType)
PartFaultAt format directory store (OutOfRange place) =
    ((file : ℕ) × (file < entries directory) × ((entry_of directory file).place ≡ place)
    × (root_of directory file ≡ Wild))
    ⊎ ((part : Part) × Reach format directory store part × (part.place ≡ place)
    × ((pointer : ℕ) × (link_from format store part pointer ≡ Wild)))
PartFaultAt format directory store (InSystem place) =
    (part : Part) × Reach format directory store part × (part.place ≡ place) × (is_system directory place ≡ true)
PartFaultAt format directory store (Shared place) =
    (part : Part) × (other : Part) × Reach format directory store part × Reach format directory store other
    × (part.place ≡ place) × (other.place ≡ place) × (part ≢ other)
PartFaultAt format directory store (MarkedFree place) =
    (part : Part) × Reach format directory store part × (part.place ≡ place) × (is_free directory place ≡ true)
PartFaultAt format directory store fault = ⊥

-- the fault is there: in the header, the directory or the map's pointer, or at a part or an entry
abbrev pub FaultAt : Meaning → List (List ℕ) → Fault → Type 0
FaultAt format store fault =
    format.HeaderFaultAt store fault
    ⊎ ((directory : Directory) × format.Describes store directory × PartFaultAt format directory store fault)

-- a store that is accepted
abbrev pub IsVolume : Meaning → List (List ℕ) → Type 0
IsVolume format store = (directory : Directory) × IsAccepted format directory store
