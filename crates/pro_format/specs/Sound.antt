-- What holds of a volume that was read, whatever the device told.
use Rattle.std.specs.Prelude.{◌≡◌, ◌<◌, ◌≤◌, ◌+◌, ℕ, Bool, true, List, length, slice_index_or, All}
use Rattle.pro_bitmap.specs.Bitmap.{FreeMap}
use Rattle.pro_dir.specs.declared.entry.Entry.{Entry}
use Rattle.pro_dir.specs.Volume.{Directory as Tree, map_blocks, map_first, total_blocks}
use Rattle.pro_format.specs.Pro.{available_in}

-- The entries stand in slots of blocks of the volume, and the blocks of the map are blocks of it; block 0 is the
-- system's, and what is available is all that is not.
pub record IsSound (tree : Tree) (system : List Bool) : Type 0 where
  pub places : total_blocks tree.header < 65536
  pub blocks : All (λ (entry : Entry). entry.place < total_blocks tree.header) tree.entries
  pub slots : All (λ (entry : Entry). entry.slot < 13) tree.entries
  pub few : length tree.entries < 4294967296
  pub map : (place : ℕ) → map_first tree.header ≤ place
      → place < map_first tree.header + map_blocks (total_blocks tree.header) → place < total_blocks tree.header
  pub size : length system ≡ total_blocks tree.header
  pub first : slice_index_or system 0 true ≡ true

-- the map is that of the directories, and the order of the available places is upward
pub record IsFitted (tree : Tree) (map : FreeMap) (system : List Bool) (available : List ℕ) : Type 0 where
  pub sound : IsSound tree system
  pub first : map.first ≡ map_first tree.header
  pub total : map.total ≡ total_blocks tree.header
  pub available_is : available ≡ available_in system
