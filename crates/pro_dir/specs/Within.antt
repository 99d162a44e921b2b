-- What holds of the directories that were walked over, whatever the device tells.
use Rattle.std.specs.Prelude.{◌≡◌, ◌≢◌, ◌<◌, ◌≤◌, ◌+◌, ℕ, Option, IfSome, length, All, AllPairs, Contains}
use Rattle.pro_dir.specs.declared.entry.Entry.{Entry}
use Rattle.pro_dir.specs.declared.reading.FreeSlot.{FreeSlot}
use Rattle.pro_dir.specs.declared.waiting.Waiting.{Waiting}
use Rattle.pro_dir.specs.Volume.{Directory, map_blocks, map_first, total_blocks}

-- an entry stands in one of the thirteen slots of a block below the places, as does its directory's key block, and has
-- its 39 bytes
pub record IsInSlot (places : ℕ) (entry : Entry) : Type 0 where
  pub directory : entry.directory < places
  pub place : entry.place < places
  pub slot : entry.slot < 13
  pub bytes : length entry.bytes ≡ 39

-- The directories lie within a volume of so many places: the header is whole and tells this total, each block is one
-- that a link can name and stands once, each entry is in a slot, and the map's blocks are others within the volume.
pub record IsWithin (places : ℕ) (directory : Directory) : Type 0 where
  pub header : length directory.header ≡ 39
  pub total : total_blocks directory.header ≡ places
  pub blocks : (block : ℕ) → Contains directory.blocks block → (2 ≤ block) × (block < places)
  pub once : AllPairs (λ block later. block ≢ later) directory.blocks
  pub entries : All (IsInSlot places) directory.entries
  pub few : length directory.entries < 4294967296
  pub map : (place : ℕ) → map_first directory.header ≤ place → place < map_first directory.header + map_blocks places
      → (2 ≤ place) × (place < places) × ¬ Contains directory.blocks place

-- A free slot of the directory with a key block: the number of one of the thirteen slots of a block below the places,
-- but not that of the directory's header.
pub record IsFreeWithin (places key : ℕ) (slot : ℕ × ℕ) : Type 0 where
  pub place : slot.0 < places
  pub number : slot.1 < 13
  pub no_header : slot.1 ≡ 0 → slot.0 ≢ key

abbrev pub IsKeptWithin : ℕ → FreeSlot → Type 0
IsKeptWithin places slot = IsFreeWithin places slot.directory (slot.place, slot.number)

-- slots that wait are of a block below the places, as is their directory's key block
pub record IsWaitingWithin (places : ℕ) (slots : Waiting) : Type 0 where
  pub directory : slots.directory < places
  pub place : slots.place < places
  pub slot : slots.slot ≤ 13

-- what was read of the directory with a key block: its first slot without an entry
pub record IsReadWithin (places key : ℕ) (slot : Option (ℕ × ℕ)) : Type 0 where
  pub named : key < places
  pub free : IfSome slot (IsFreeWithin places key)
