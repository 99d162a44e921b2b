-- What the units of a ProDOS volume mean (ProDOS 8 Technical Reference Manual, Appendix B).
use Rattle.std.specs.Prelude.{◌≡◌, ◌<◌, ◌≤◌, ℕ, ◌+◌, ◌-◌, ◌/◌, ◌%◌, ◌==◌, ◌^◌, nat_lt, not, ◌&&◌, ◌||◌, Bool, true, false, if◌then◌else◌, List, [], ◌∷◌, ◌++◌, length, map, filter, take, drop, slice_index, slice_index_or, slice_set, bit_and, bit_or}
use Rattle.std.specs.List.{range_with_len, list_any}
use Rattle.a2_device.specs.Device.{unit_at}
use Rattle.pro_bitmap.specs.Bitmap.{is_free_in, units_in}
use Rattle.pro_dir.specs.declared.entry.Entry.{Entry}
use Rattle.pro_dir.specs.Entry.{key_of, name_of, storage_of}
use Rattle.pro_dir.specs.Paths.{path_of}
use Rattle.pro_dir.specs.Volume.{Directory as Tree, Describes, VolumeFaultAt, map_blocks, map_first, total_blocks}
use Rattle.pro_dir.specs.Writes.{slot_offset}
use Rattle.pro_tree.specs.Reach.{pro_root, pro_child, pro_pointers, pro_rank, pro_ends, pro_depth}
use Rattle.pro_tree.specs.Content.{CanNameBlock, pro_with_pointer, pro_content}
use Rattle.vol_layout.specs.Reserved.{is_reserved}
use Rattle.vol_format.specs.declared.link.Link.{Link}
use Rattle.vol_format.specs.declared.link.Link.TheVariants.{To}
use Rattle.vol_format.specs.Directory.{Directory, Listed, map_place}
use Rattle.vol_format.specs.Meaning.{Meaning}

-- volumes have 16 to 65,535 blocks
abbrev pub TakesBlocks : ℕ → Type 0
TakesBlocks places = (16 ≤ places) × (places < 65536)

-- whether a place is one of some blocks
abbrev pub is_one_of : List ℕ → ℕ → Bool
is_one_of blocks place = list_any (λ block. block == place) blocks

-- The system has blocks 0 and 1, the blocks of the map, what is reserved, and all directory blocks.
abbrev pub is_fixed_from : ℕ → ℕ → List Bool → ℕ → Bool
is_fixed_from first behind reserved place =
    nat_lt place 2 || (not (nat_lt place first) && nat_lt place behind) || is_reserved reserved place

abbrev pub is_fixed : List Bool → Tree → ℕ → Bool
is_fixed reserved tree place =
    is_fixed_from (map_first tree.header) (map_first tree.header + map_blocks (total_blocks tree.header)) reserved place

abbrev pub is_pro_system : List Bool → Tree → ℕ → Bool
is_pro_system reserved tree place = is_fixed reserved tree place || is_one_of tree.blocks place

unfoldable pub pro_system : List Bool → Tree → List Bool
pro_system reserved tree = map (is_pro_system reserved tree) (range_with_len 0 (total_blocks tree.header))

-- the first so many blocks upward that are not the system's
unfoldable pub first_available : List Bool → ℕ → List ℕ
first_available system count = filter (λ place. not (slice_index_or system place true)) (range_with_len 0 count)

abbrev pub available_in : List Bool → List ℕ
available_in system = first_available system (length system)

-- for each block its bit in the units of the map
unfoldable pub pro_free : List (List ℕ) → ℕ → List Bool
pro_free units places = map (λ place. is_free_in (unit_at units (place / 4096)) (place % 4096))
    (range_with_len 0 places)

-- an entry's bytes without the two of its key pointer
abbrev pub without_key : List ℕ → List ℕ
without_key bytes = take 0x11 bytes ++ drop 0x13 bytes

-- an entry, by its number
abbrev pub pro_entry : ℕ → ℕ → List ℕ → Entry → Listed
pro_entry places file path entry = record {
  place = entry.place;
  slot = entry.slot;
  path = path;
  bytes = without_key entry.bytes;
  root = pro_root places file (storage_of entry.bytes) (key_of entry);
}

abbrev pub no_slot : Entry
no_slot = record { directory = 0; place = 0; slot = 0; bytes = [] }

abbrev pub entry_number : ℕ → List Entry → ℕ → Listed
entry_number places all file = pro_entry places file (path_of all file) (slice_index_or all file no_slot)

unfoldable pub pro_listed : ℕ → List Entry → List Listed
pro_listed places all = map (entry_number places all) (range_with_len 0 (length all))

-- what the directories and the units of the map say, where the system has these places
abbrev pub directory_with : List Bool → Tree → List (List ℕ) → Directory
directory_with system tree units = record {
  places = total_blocks tree.header;
  name = name_of tree.header;
  listed = pro_listed (total_blocks tree.header) tree.entries;
  system = system;
  free = pro_free units (total_blocks tree.header);
  available = available_in system;
  map_units = range_with_len (map_first tree.header) (map_blocks (total_blocks tree.header));
  map_size = 4096;
}

abbrev pub pro_directory : List Bool → Tree → List (List ℕ) → Directory
pro_directory reserved tree units = directory_with (pro_system reserved tree) tree units

-- the units of the map that the directories name
abbrev pub map_of : List (List ℕ) → Tree → List (List ℕ)
map_of store tree = units_in store (map_first tree.header) (map_blocks (total_blocks tree.header))

-- the directories and the map, and what they say
pub record DescribesPro (reserved : List Bool) (store : List (List ℕ)) (directory : Directory) : Type 0 where
  pub size : TakesBlocks (length store)
  pub tree : Tree
  pub described : Describes store tree
  pub says : directory ≡ pro_directory reserved tree (map_of store tree)

abbrev pub HasProSlot : Bool → ℕ → Type 0
HasProSlot true slot = slot < 13
HasProSlot false slot = slot < 256

-- pointers have two bytes, and can name each block but 0
abbrev pub CanNamePro : ℕ → ℕ → Type 0
CanNamePro places place = CanNameBlock places place × (place < 65536)

-- where the key pointer of a slot stands
abbrev pub key_offset : ℕ → ℕ
key_offset slot = slot_offset slot + 0x11

-- a directory block with one key pointer written
abbrev pub pro_with_root : List ℕ → ℕ → ℕ → List ℕ
pro_with_root unit slot place =
    slice_set (slice_set unit (key_offset slot) (place % 256)) (key_offset slot + 1) (place / 256)

-- a block of the map with one bit written: bit 7 of a byte is its first block, and 1 is free
abbrev pub bit_byte : ℕ → ℕ
bit_byte place = place % 4096 / 8

abbrev pub with_bit : Bool → ℕ → ℕ → ℕ
with_bit true place byte = bit_or byte (2 ^ (7 - place % 8))
with_bit false place byte = bit_and byte (255 - 2 ^ (7 - place % 8))

abbrev pub pro_with_free : List ℕ → ℕ → Bool → List ℕ
pro_with_free unit place free =
    slice_set unit (bit_byte place) (with_bit free place (slice_index unit (bit_byte place)))

-- a block of the map with the bits of some places put to 0
abbrev pub bits_cleared : List ℕ → List ℕ → List ℕ
bits_cleared [] unit = unit
bits_cleared (place ∷ places) unit = bits_cleared places (pro_with_free unit place false)

-- the available places whose bits a block of the map has
abbrev pub marked_in : Directory → ℕ → List ℕ
marked_in directory block = filter (λ place. map_place directory place == block) directory.available

-- an entry in this slot of this block points to a part
abbrev pub names_part : Link → Bool
names_part (To part) = true
names_part link = false

abbrev pub has_root_at : Directory → ℕ → ℕ → Bool
has_root_at directory place slot =
    list_any (λ (entry : Listed). (entry.place == place && entry.slot == slot) && names_part entry.root)
    directory.listed

abbrev pub root_at_byte : Directory → ℕ → ℕ → Bool
root_at_byte directory place at =
    not (nat_lt at 0x15) && nat_lt ((at - 0x15) % 39) 2 && has_root_at directory place ((at - 0x15) / 39)

-- A unit of the system with the marks of available places and the entries' pointers to parts put to 0.
unfoldable pub pro_system_content : Directory → ℕ → List ℕ → List ℕ
pro_system_content directory place unit =
    if is_one_of directory.map_units place then bits_cleared (marked_in directory place) unit
    else map (λ at. if root_at_byte directory place at then 0 else slice_index unit at) (range_with_len 0 512)

-- how many places there are is told by the directories' own header; which of them are reserved, by the owner
abbrev pub pro_meaning : List Bool → Meaning
pro_meaning reserved = record {
  unit_size = 512;
  Takes = TakesBlocks;
  Describes = DescribesPro reserved;
  HeaderFaultAt = VolumeFaultAt;
  pointers = λ part. pro_pointers part.kind;
  child = λ places part unit i. pro_child places part.kind part.file part.number unit i;
  rank = λ part. pro_rank part.kind part.number;
  Ends = λ part rank. pro_ends part.kind part.number rank;
  depth = λ part. pro_depth part.kind part.number;
  CanName = CanNamePro;
  HasSlot = HasProSlot;
  with_pointer = pro_with_pointer;
  with_root = pro_with_root;
  with_free = pro_with_free;
  content = λ places part unit. pro_content places part.kind unit;
  system_content = pro_system_content;
}
