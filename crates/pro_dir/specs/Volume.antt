-- What the header, the directories and the map's pointer of a volume say (ProDOS 8 Technical Reference Manual, Appendix
-- B).
use Rattle.std.specs.Prelude.{◌≡◌, ◌⊎◌, ◌≤◌, ◌<◌, ℕ, ◌+◌, ◌/◌, List, length, Contains}
use Rattle.a2_device.specs.Device.{unit_at}
use Rattle.a2_device.specs.declared.fault.Fault.{Fault}
use Rattle.a2_device.specs.declared.fault.Fault.TheVariants.{Geometry, MapPointer}
use Rattle.pro_dir.specs.declared.entry.Entry.{Entry}
use Rattle.pro_dir.specs.Entry.{word, slot_bytes}
use Rattle.pro_dir.specs.Tree.{CanLink, HasKind, HasSizes, IsTree, TreeFaultAt}

-- what a volume's directories say: the 39 bytes of the volume's header, all directory blocks, and all entries
pub record Directory : Type 0 where
  pub header : List ℕ
  pub blocks : List ℕ
  pub entries : List Entry

-- the header of the volume's directory in block 2
abbrev pub volume_header : List (List ℕ) → List ℕ
volume_header store = slot_bytes (unit_at store 2) 0

-- The first block of the map and the total of blocks stand at 27 and 29 of block 2, at 23 and 25 of the header.
abbrev pub map_first : List ℕ → ℕ
map_first header = word header 0x23

abbrev pub total_blocks : List ℕ → ℕ
total_blocks header = word header 0x25

-- how many blocks the map has: one for each 4,096 places
abbrev pub map_blocks : ℕ → ℕ
map_blocks places = (places + 4095) / 4096

-- block 2 is a volume's header, and its total is the number of places
pub record HasGeometry (store : List (List ℕ)) : Type 0 where
  pub kind_is : HasKind 0x0f (unit_at store 2)
  pub sizes : HasSizes (unit_at store 2)
  pub total : total_blocks (volume_header store) ≡ length store

-- each block of the map is one that a link could name, and none is a directory's
abbrev pub HasMap : List (List ℕ) → ℕ → List ℕ → Type 0
HasMap store first blocks = (place : ℕ) → first ≤ place → place < first + map_blocks (length store)
    → CanLink store place × ¬ Contains blocks place

-- a store says this of its directories
pub record Describes (store : List (List ℕ)) (directory : Directory) : Type 0 where
  pub geometry : HasGeometry store
  pub header : directory.header ≡ volume_header store
  pub tree : IsTree store directory.blocks directory.entries
  pub map : HasMap store (map_first directory.header) directory.blocks

-- the directories have no fault, but the map's pointer has
pub record HasBadMap (store : List (List ℕ)) : Type 0 where
  pub blocks : List ℕ
  pub entries : List Entry
  pub tree : IsTree store blocks entries
  pub bad : ¬ HasMap store (map_first (volume_header store)) blocks

-- Geometry of block 2 comes before any link, and the map's pointer only where the tree has no fault.
abbrev pub VolumeFaultAt : List (List ℕ) → Fault → Type 0
VolumeFaultAt store fault =
    ((fault ≡ Geometry 2) × ¬ HasGeometry store)
    ⊎ (HasGeometry store × TreeFaultAt store fault)
    ⊎ ((fault ≡ MapPointer 2) × HasGeometry store × HasBadMap store)
