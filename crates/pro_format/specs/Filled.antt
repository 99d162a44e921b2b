-- Two stores that differ in one slot of a directory block, or in the count of files of one header.
use Rattle.std.specs.Prelude.{◌≡◌, ◌≢◌, ◌⊎◌, ◌<◌, ◌≤◌, ℕ, ◌==◌, true, false, List, length, slice_index, slice_index_or, All, Contains}
use Rattle.a2_device.specs.Device.{unit_at}
use Rattle.pro_dir.specs.declared.entry.Entry.{Entry}
use Rattle.pro_dir.specs.Entry.{entry_at, slot_bytes, storage_of, name_of, is_directory, key_of}
use Rattle.pro_dir.specs.Tree.{IsRun, IsTree, next_of}
use Rattle.pro_dir.specs.Paths.{path_of}
use Rattle.pro_dir.specs.Volume.{Directory as Tree, map_first, total_blocks}
use Rattle.pro_format.specs.Pro.{pro_entry}
use Rattle.vol_format.specs.Directory.{Listed}
use Rattle.vol_laws.specs.Inserted.{insert_at}
use Rattle.pro_format.specs.Slots.{IsNoHeader}

-- Two stores that differ in one slot of one directory block alone.
pub record IsAlike (old new : List (List ℕ)) (place slot : ℕ) : Type 0 where
  pub size : length new ≡ length old
  pub elsewhere : (other : ℕ) → other ≢ place → unit_at new other ≡ unit_at old other
  pub others : (other : ℕ) → other ≢ slot → slot_bytes (unit_at new place) other ≡ slot_bytes (unit_at old place) other
  pub next : next_of (unit_at new place) ≡ next_of (unit_at old place)
  pub kind : slot ≢ 0 → slice_index (unit_at new place) 0x04 ≡ slice_index (unit_at old place) 0x04
  pub entry_size : slot ≢ 0 → slice_index (unit_at new place) 0x23 ≡ slice_index (unit_at old place) 0x23
  pub entry_count : slot ≢ 0 → slice_index (unit_at new place) 0x24 ≡ slice_index (unit_at old place) 0x24

-- The slot has no entry in the first store and a file's in the second.
pub record IsFilled (less more : List (List ℕ)) (place slot : ℕ) : Type 0 where
  pub alike : IsAlike less more place slot
  pub below : slot < 13
  pub unused : (storage_of (slot_bytes (unit_at less place) slot) == 0) ≡ true
  pub used : (storage_of (slot_bytes (unit_at more place) slot) == 0) ≡ false
  pub file : (storage_of (slot_bytes (unit_at more place) slot) == 13) ≡ false

-- the slot is the header of no directory that some entries name
abbrev pub IsNoKey : ℕ → ℕ → List Entry → Type 0
IsNoKey place slot entries = All (λ entry. is_directory entry ≡ true → IsNoHeader place slot (key_of entry)) entries

-- the entry in the slot, of the directory with a key block
abbrev pub filled_entry : List (List ℕ) → ℕ → ℕ → ℕ → Entry
filled_entry more place slot key = entry_at key place (unit_at more place) slot

-- what this entry says, entered into a tree of directories at a number
abbrev pub pro_new : List (List ℕ) → ℕ → ℕ → Tree → ℕ → ℕ → Listed
pro_new more place slot tree key at =
    pro_entry (total_blocks tree.header) at (path_of (insert_at at (filled_entry more place slot key) tree.entries) at)
    (filled_entry more place slot key)

-- the directory with a key block is the volume's, or its entry is among the first so many
abbrev pub IsNumber : List Entry → ℕ → Entry → Type 0
IsNumber entries number entry = (number < length entries) × (slice_index_or entries number entry ≡ entry)

abbrev pub IsEntryBefore : List Entry → ℕ → ℕ → Type 0
IsEntryBefore entries at key =
    (number : ℕ) × (entry : Entry) × (number < at) × IsNumber entries number entry × (is_directory entry ≡ true)
    × (key_of entry ≡ key)

abbrev pub IsDirectoryBefore : List Entry → ℕ → ℕ → Type 0
IsDirectoryBefore entries at key = (key ≡ 2) ⊎ IsEntryBefore entries at key

-- The tree has one entry more, in the directory with this key block.
pub record HasOneMore (less more : List (List ℕ)) (place slot : ℕ) (blocks : List ℕ)
    (entries : List Entry) : Type 0 where
  pub key : ℕ
  pub own : List ℕ
  pub run : IsRun less key own
  pub has : Contains own place
  pub at : ℕ
  pub of : IsDirectoryBefore entries at key
  pub within : at ≤ length entries
  pub tree : IsTree more blocks (insert_at at (filled_entry more place slot key) entries)

-- The tree has one entry less.
pub record HasOneLess (less more : List (List ℕ)) (place slot : ℕ) (blocks : List ℕ)
    (entries : List Entry) : Type 0 where
  pub key : ℕ
  pub own : List ℕ
  pub run : IsRun more key own
  pub has : Contains own place
  pub at : ℕ
  pub others : List Entry
  pub within : at ≤ length others
  pub is : entries ≡ insert_at at (filled_entry more place slot key) others
  pub tree : IsTree less blocks others

-- Two stores that differ in the header of one key block alone, and there at most in what is not read of it, as the
-- count of files.
pub record IsCounted (old new : List (List ℕ)) (place : ℕ) : Type 0 where
  pub size : length new ≡ length old
  pub elsewhere : (other : ℕ) → other ≢ place → unit_at new other ≡ unit_at old other
  pub others : (other : ℕ) → other ≢ 0 → slot_bytes (unit_at new place) other ≡ slot_bytes (unit_at old place) other
  pub next : next_of (unit_at new place) ≡ next_of (unit_at old place)
  pub kind : slice_index (unit_at new place) 0x04 ≡ slice_index (unit_at old place) 0x04
  pub entry_size : slice_index (unit_at new place) 0x23 ≡ slice_index (unit_at old place) 0x23
  pub entry_count : slice_index (unit_at new place) 0x24 ≡ slice_index (unit_at old place) 0x24
  pub name : name_of (slot_bytes (unit_at new place) 0) ≡ name_of (slot_bytes (unit_at old place) 0)
  pub first : map_first (slot_bytes (unit_at new place) 0) ≡ map_first (slot_bytes (unit_at old place) 0)
  pub total : total_blocks (slot_bytes (unit_at new place) 0) ≡ total_blocks (slot_bytes (unit_at old place) 0)
