-- The entries of a directory block (ProDOS 8 Technical Reference Manual, Appendix B).
use Rattle.std.specs.Prelude.{ℕ, ◌+◌, ◌*◌, ◌/◌, ◌%◌, ◌==◌, not, ◌&&◌, Bool, List, take, drop, map, filter, flat_map, slice_index}
use Rattle.std.specs.List.{range_with_len}
use Rattle.a2_device.specs.Device.{unit_at}
use Rattle.pro_dir.specs.declared.entry.Entry.{Entry}

-- a number of two bytes, and of three, the low one first
abbrev pub word : List ℕ → ℕ → ℕ
word bytes at = slice_index bytes at + 256 * slice_index bytes (at + 1)

abbrev pub long : List ℕ → ℕ → ℕ
long bytes at = slice_index bytes at + 256 * slice_index bytes (at + 1) + 65536 * slice_index bytes (at + 2)

-- an entry is 39 bytes, thirteen in a block, from 04 on
abbrev pub slot_bytes : List ℕ → ℕ → List ℕ
slot_bytes unit slot = take 39 (drop (4 + 39 * slot) unit)

abbrev pub entry_at : ℕ → ℕ → List ℕ → ℕ → Entry
entry_at directory place unit slot = record {
  directory = directory;
  place = place;
  slot = slot;
  bytes = slot_bytes unit slot;
}

-- byte 00 has the storage type in its high four bits and the length of the name, which begins at 01, in the others
abbrev pub storage_of : List ℕ → ℕ
storage_of bytes = slice_index bytes 0 / 16

abbrev pub name_of : List ℕ → List ℕ
name_of bytes = take (slice_index bytes 0 % 16) (drop 1 bytes)

-- the first slot of a key block is the directory's header
abbrev pub is_header : Entry → Bool
is_header entry = entry.place == entry.directory && entry.slot == 0

-- storage type 0 is no entry, whatever the length
abbrev pub is_listed : Entry → Bool
is_listed entry = not (storage_of entry.bytes == 0) && not (is_header entry)

abbrev pub is_inactive : Entry → Bool
is_inactive entry = (storage_of entry.bytes == 0) && not (is_header entry)

abbrev pub is_directory : Entry → Bool
is_directory entry = storage_of entry.bytes == 13

abbrev pub key_of : Entry → ℕ
key_of entry = word entry.bytes 0x11

-- the entries of one block of a directory, and of some blocks in order
unfoldable pub entries_of : ℕ → ℕ → List ℕ → List Entry
entries_of directory place unit = filter is_listed (map (entry_at directory place unit) (range_with_len 0 13))

abbrev pub entries_in : List (List ℕ) → ℕ → List ℕ → List Entry
entries_in store directory places = flat_map (λ place. entries_of directory place (unit_at store place)) places

-- the slots of one block that have no entry, with its place, and of some blocks in order
unfoldable pub free_slots_of : ℕ → ℕ → List ℕ → List (ℕ × ℕ)
free_slots_of directory place unit =
    map (λ slot. (place, slot)) (filter (λ slot. is_inactive (entry_at directory place unit slot))
    (range_with_len 0 13))

abbrev pub free_slots_in : List (List ℕ) → ℕ → List ℕ → List (ℕ × ℕ)
free_slots_in store directory places = flat_map (λ place. free_slots_of directory place (unit_at store place)) places
