-- An empty directory of one block in the tree of directories: a leaf of the tree.
use Rattle.std.specs.Prelude.{◌≡◌, ◌<◌, ◌≤◌, ℕ, ◌==◌, Bool, true, false, List, [], ◌∷◌, Option, length, Contains}
use Rattle.a2_device.specs.Device.{unit_at}
use Rattle.pro_dir.specs.declared.entry.Entry.{Entry}
use Rattle.pro_dir.specs.Entry.{entries_in, name_of, slot_bytes, storage_of, word}
use Rattle.pro_dir.specs.Paths.{name_below}
use Rattle.pro_dir.specs.Tree.{IsDirectory, IsRun, IsTree}
use Rattle.vol_format.specs.declared.link.Link.TheVariants.{Directory as ToDirectory}
use Rattle.vol_format.specs.Directory.{Directory, Listed, entries as listed_entries}
use Rattle.pro_format.specs.Pro.{DescribesPro, without_key}
use Rattle.vol_laws.specs.Entered.{HasSameRest}
use Rattle.vol_laws.specs.Inserted.{insert_at}
use Rattle.pro_format.specs.Filled.{IsAlike, IsDirectoryBefore, filled_entry}
use Rattle.pro_format.specs.Slots.{KeepsDirectoriesOf}
use Rattle.file_edits.specs.WithDirectory.{with_directory}

-- a subdirectory of one block, without an entry
pub record IsEmptyDirectory (store : List (List ℕ)) (key : ℕ) : Type 0 where
  pub is : IsDirectory store 0x0e key (key ∷ [])
  pub empty : entries_in store key (key ∷ []) ≡ []

-- Two stores that differ in one slot alone: in the first it has no entry, in the second that of an empty directory.
pub record IsLeafEntered (less more : List (List ℕ)) (place slot leaf : ℕ) : Type 0 where
  pub alike : IsAlike less more place slot
  pub below : slot < 13
  pub unused : (storage_of (slot_bytes (unit_at less place) slot) == 0) ≡ true
  pub used : (storage_of (slot_bytes (unit_at more place) slot) == 0) ≡ false
  pub directory : (storage_of (slot_bytes (unit_at more place) slot) == 13) ≡ true
  pub key : word (slot_bytes (unit_at more place) slot) 0x11 ≡ leaf
  pub leaf_is : IsEmptyDirectory more leaf

-- The tree has one entry more, in the directory with this key block, and one block more.
pub record HasOneLeafMore (less more : List (List ℕ)) (place slot leaf : ℕ) (blocks : List ℕ)
    (entries : List Entry) : Type 0 where
  pub key : ℕ
  pub own : List ℕ
  pub run : IsRun less key own
  pub has : Contains own place
  pub at : ℕ
  pub of : IsDirectoryBefore entries at key
  pub within : at ≤ length entries
  pub block : ℕ
  pub block_within : block ≤ length blocks
  pub tree : IsTree more (insert_at block leaf blocks) (insert_at at (filled_entry more place slot key) entries)

-- the 39 bytes of the entry of a directory with a key block
pub record IsLeafEntry (leaf : ℕ) (bytes : List ℕ) : Type 0 where
  pub size : length bytes ≡ 39
  pub storage : storage_of bytes ≡ 13
  pub key : word bytes 0x11 ≡ leaf

-- The volume's directory has the entry of the new directory more, whose block is the system's. Only the system's blocks
-- changed.
pub record HasOneDirectoryMore (reserved : List Bool) (all : List Entry) (directory : Directory)
    (old new : List (List ℕ)) (above : Option (List ℕ)) (place slot leaf : ℕ) (bytes : List ℕ) : Type 0 where
  pub at : ℕ
  pub within : at ≤ listed_entries directory
  pub entry : Listed
  pub described : DescribesPro reserved new (with_directory directory at entry leaf)
  pub place_is : entry.place ≡ place
  pub slot_is : entry.slot ≡ slot
  pub path_is : entry.path ≡ name_below above (name_of bytes)
  pub bytes_are : entry.bytes ≡ without_key bytes
  pub root_is : entry.root ≡ ToDirectory
  pub rest : HasSameRest directory old new
  pub empty : IsEmptyDirectory new leaf
  pub directories : KeepsDirectoriesOf all new
