-- Slots of the directories of a volume, and what is written into them (ProDOS 8 Technical Reference Manual, Appendix
-- B).
use Rattle.std.specs.Prelude.{◌≡◌, ◌≢◌, ◌<◌, ◌≤◌, ℕ, Bool, true, List, length, Option, Some, None, slice_get, take, Contains}
use Rattle.a2_device.specs.Device.{unit_at}
use Rattle.pro_dir.specs.declared.entry.Entry.{Entry}
use Rattle.pro_dir.specs.declared.slot.NewFile.{NewFile}
use Rattle.pro_dir.specs.declared.volume.VolumeDir.{VolumeDir}
use Rattle.pro_dir.specs.Entry.{free_slots_in, is_directory, key_of, name_of, slot_bytes, storage_of, word}
use Rattle.pro_dir.specs.Listed.{directory_of, free_slot_of}
use Rattle.pro_dir.specs.Parents.{entry_in}
use Rattle.pro_dir.specs.Paths.{name_below, path_of}
use Rattle.pro_dir.specs.Tree.{IsRun}
use Rattle.pro_dir.specs.Volume.{Directory as Tree, Describes}
use Rattle.pro_dir.specs.Walk.{IsKeyOf}
use Rattle.pro_tree.specs.Reach.{pro_root}
use Rattle.vol_format.specs.Directory.{Directory, Listed, entries, entry_of}
use Rattle.pro_format.specs.Pro.{DescribesPro, without_key}
use Rattle.vol_laws.specs.Entered.{HasSameRest}
use Rattle.vol_laws.specs.Inserted.{inserted}

-- the first slot of a key block is the header of its directory
abbrev pub IsNoHeader : ℕ → ℕ → ℕ → Type 0
IsNoHeader place slot key = slot ≡ 0 → place ≢ key

-- one of the thirteen slots of a block of the directory with a key block, and not its header
pub record IsSlotOf (store : List (List ℕ)) (key place slot : ℕ) : Type 0 where
  pub own : List ℕ
  pub run : IsRun store key own
  pub has : Contains own place
  pub below : slot < 13
  pub no_header : IsNoHeader place slot key

-- such a slot without an entry, which has storage type 0
pub record IsFreeSlotOf (store : List (List ℕ)) (key place slot : ℕ) : Type 0 where
  pub is : IsSlotOf store key place slot
  pub unused : storage_of (slot_bytes (unit_at store place) slot) ≡ 0

-- What a walk over the directories of a volume keeps: for each of them its first slot without an entry, if it has one.
abbrev pub KeepsFreeSlots : {A : Type 0} → List (List ℕ) → VolumeDir A → Type 0
KeepsFreeSlots store volume =
    (key : ℕ) (own : List ℕ) → IsKeyOf (directory_of volume).entries key → IsRun store key own
    → free_slot_of volume key ≡ slice_get (free_slots_in store key own) 0

-- the 39 bytes of a file's entry, of a storage type that is neither 0, for no entry, nor D, for a subdirectory
pub record IsFileEntry (bytes : List ℕ) : Type 0 where
  pub size : length bytes ≡ 39
  pub used : storage_of bytes ≢ 0
  pub file : storage_of bytes ≢ 13

-- the path of the subdirectory that has a key block
pub record IsPathOfSubdirectory (all : List Entry) (key : ℕ) (path : List ℕ) : Type 0 where
  pub number : ℕ
  pub inside : number < length all
  pub subdirectory : is_directory (entry_in all number) ≡ true
  pub key_is : key_of (entry_in all number) ≡ key
  pub path_is : path ≡ path_of all number

-- the path of the directory that has a key block; that of the volume has none
abbrev pub IsPathOfDirectory : List Entry → ℕ → Option (List ℕ) → Type 0
IsPathOfDirectory all key None = key ≡ 2
IsPathOfDirectory all key (Some path) = IsPathOfSubdirectory all key path

-- each directory that some entries name is one of those of a store
abbrev pub KeepsDirectoriesOf : List Entry → List (List ℕ) → Type 0
KeepsDirectoriesOf all new = (after : Tree) (key : ℕ) → Describes new after → IsKeyOf all key
    → IsKeyOf after.entries key

-- The volume's directory has one entry more: it stands in this slot, its path is its name below the path of its
-- directory, and its storage type and its key pointer tell where its file begins. Only the system's blocks changed.
pub record HasOneEntryMore (reserved : List Bool) (all : List Entry) (directory : Directory) (old new : List (List ℕ))
    (above : Option (List ℕ)) (place slot : ℕ) (bytes : List ℕ) : Type 0 where
  pub at : ℕ
  pub within : at ≤ entries directory
  pub entry : Listed
  pub described : DescribesPro reserved new (inserted directory at entry)
  pub place_is : entry.place ≡ place
  pub slot_is : entry.slot ≡ slot
  pub path_is : entry.path ≡ name_below above (name_of bytes)
  pub bytes_are : entry.bytes ≡ without_key bytes
  pub root_is : entry.root ≡ pro_root directory.places at (storage_of bytes) (word bytes 0x11)
  pub rest : HasSameRest directory old new
  pub directories : KeepsDirectoriesOf all new

-- The volume's directory has one entry less: it was the present one with that entry. Only the system's blocks changed.
pub record HasOneEntryLess (reserved : List Bool) (all : List Entry) (directory : Directory) (old new : List (List ℕ))
    (file : ℕ) : Type 0 where
  pub few : Directory
  pub described : DescribesPro reserved new few
  pub within : file ≤ entries few
  pub is : directory ≡ inserted few file (entry_of directory file)
  pub rest : HasSameRest few old new
  pub directories : KeepsDirectoriesOf all new

-- The volume's directory is the same. Only the system's blocks changed.
pub record HasSameDirectory (reserved : List Bool) (directory : Directory) (old new : List (List ℕ)) : Type 0 where
  pub described : DescribesPro reserved new directory
  pub rest : HasSameRest directory old new

-- A new file's entry as `encode` of `pro_dir` takes it: its name has at most 15 bytes, and its storage type is a
-- file's.
pub record IsProperFile (file : NewFile) : Type 0 where
  pub storage : (0 < file.storage) × (file.storage < 13)
  pub short : file.len ≤ 15
  pub name : length file.name ≡ 15
  pub date : length file.date.0 ≡ 4

-- What the bytes of a new file's entry say. Its bytes are those of a file's entry, with its name, its storage type and
-- its key pointer.
pub record SaysOfFile (file : NewFile) (bytes : List ℕ) : Type 0 where
  pub is : IsFileEntry bytes
  pub name_is : name_of bytes ≡ take file.len file.name
  pub storage_is : storage_of bytes ≡ file.storage
  pub key_is : word bytes 0x11 ≡ file.key
