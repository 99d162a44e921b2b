-- An entry with another kind, or with another name (Beneath Apple DOS, chapter 4).
use Rattle.std.specs.Prelude.{ℕ, ◌+◌, List, ◌++◌, take, drop, slice_set}
use Rattle.a2_device.specs.Device.{unit_at}
use Rattle.dos_catalog.specs.Writes.{slot_offset, with_bytes, erased}
use Rattle.vol_format.specs.Directory.{Directory, entry_of}

-- The bytes of an entry are its kind, the 30 bytes of its name, and its length.
abbrev pub with_kind : ℕ → List ℕ → List ℕ
with_kind kind bytes = slice_set bytes 0 kind

abbrev pub with_name : List ℕ → List ℕ → List ℕ
with_name name bytes = take 1 bytes ++ name ++ drop 31 bytes

-- where the entry of a file stands, and its sector
abbrev pub place_of_entry : Directory → ℕ → ℕ
place_of_entry directory file = (entry_of directory file).place

abbrev pub slot_of_entry : Directory → ℕ → ℕ
slot_of_entry directory file = (entry_of directory file).slot

abbrev pub sector_of_entry : Directory → List (List ℕ) → ℕ → List ℕ
sector_of_entry directory store file = unit_at store (place_of_entry directory file)

-- the store with the kind of a file, or its name, written into its slot, or its entry deleted
abbrev pub kind_written : Directory → List (List ℕ) → ℕ → ℕ → List (List ℕ)
kind_written directory store file kind =
    slice_set store (place_of_entry directory file)
    (slice_set (sector_of_entry directory store file) (slot_offset (slot_of_entry directory file) + 0x02) kind)

abbrev pub name_written : Directory → List (List ℕ) → ℕ → List ℕ → List (List ℕ)
name_written directory store file name =
    slice_set store (place_of_entry directory file)
    (with_bytes (slot_offset (slot_of_entry directory file) + 0x03) name (sector_of_entry directory store file))

abbrev pub entry_erased : Directory → List (List ℕ) → ℕ → List (List ℕ)
entry_erased directory store file =
    slice_set store (place_of_entry directory file)
    (erased (slot_of_entry directory file) (sector_of_entry directory store file))
