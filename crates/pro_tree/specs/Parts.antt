-- The parts of one file in order, and what can be wrong with the file.
use Rattle.std.specs.Prelude.{◌≡◌, ◌≢◌, ◌⊎◌, ◌↔◌, ◌<◌, ℕ, List, length, AllPairs, Contains}
use Rattle.a2_device.specs.Device.{unit_at}
use Rattle.a2_device.specs.declared.part.Part.{Part}
use Rattle.a2_device.specs.declared.fault.Fault.{Fault}
use Rattle.a2_device.specs.declared.fault.Fault.TheVariants.{OutOfRange, Shared, StorageType}
use Rattle.vol_format.specs.declared.link.Link.{Link}
use Rattle.vol_format.specs.declared.link.Link.TheVariants.{Wild}
use Rattle.pro_tree.specs.Reach.{pro_root, pro_child, pro_rank}
use Rattle.pro_tree.specs.File.{InFile}

abbrev pub rank : Part → ℕ
rank part = pro_rank part.kind part.number

-- what pointer i of a part's block names
abbrev pub named_by : List (List ℕ) → Part → ℕ → Link
named_by store part i = pro_child (length store) part.kind part.file part.number (unit_at store part.place) i

-- the parts of a file, in order
pub record IsPartsOf (store : List (List ℕ)) (file storage key : ℕ) (parts : List Part) : Type 0 where
  pub members : (part : Part) → Contains parts part ↔ InFile store file storage key part
  pub ordered : AllPairs (λ part later. rank part < rank later) parts

-- a seedling, a sapling or a tree
abbrev pub HasParts : ℕ → Type 0
HasParts storage = (storage ≡ 1) ⊎ (storage ≡ 2) ⊎ (storage ≡ 3)

-- a file of a type that is read, without a wild pointer
pub record HasNoWild (store : List (List ℕ)) (file storage key : ℕ) : Type 0 where
  pub type : HasParts storage
  pub key_pointer : pro_root (length store) file storage key ≢ Wild
  pub pointers : (part : Part) (i : ℕ) → InFile store file storage key part → named_by store part i ≢ Wild

-- A fault of a file: a wild pointer in its entry or in one of its indexes, two parts at one place, or a storage type
-- that has no parts.
abbrev pub FileFaultAt : List (List ℕ) → ℕ → ℕ → ℕ → ℕ → Fault → Type 0
FileFaultAt store file storage key entry (OutOfRange place) =
    ((place ≡ entry) × (pro_root (length store) file storage key ≡ Wild))
    ⊎ ((part : Part) × InFile store file storage key part × (part.place ≡ place)
    × ((i : ℕ) × (named_by store part i ≡ Wild)))
FileFaultAt store file storage key entry (Shared place) =
    (part : Part) × (other : Part) × InFile store file storage key part × InFile store file storage key other
    × (part.place ≡ place) × (other.place ≡ place) × (part ≢ other)
FileFaultAt store file storage key entry (StorageType place) = (place ≡ entry) × (HasParts storage → ⊥)
FileFaultAt store file storage key entry fault = ⊥
