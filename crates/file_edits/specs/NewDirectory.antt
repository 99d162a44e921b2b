-- The block of a new directory, and the entry of its parent that leads to it (ProDOS 8 Technical Reference Manual,
-- Appendix B).
use Rattle.std.specs.Prelude.{ℕ, ◌+◌, ◌/◌, ◌%◌, List, [], ◌∷◌, ◌++◌, length, replicate}
use Rattle.a2_device.specs.Device.{unit_at}
use Rattle.pro_dir.specs.declared.date.ProDate.{ProDate}
use Rattle.pro_dir.specs.declared.slot.NewFile.{NewFile}
use Rattle.pro_dir.specs.Writes.{entry_bytes, slot_offset, with_bytes}
use Rattle.vol_laws.specs.Writes.{Write}
use Rattle.edit_formats.specs.declared.counting.FileCount.TheVariants.{More}
use Rattle.edit_formats.specs.Counting.{counted_writes}
use Rattle.edit_formats.specs.ProNames.{pro_name}
use Rattle.edit_formats.specs.declared.target.Slot.{Slot}
use Rattle.edit_formats.specs.ProSaves.{last_name}

-- What stands in a block up to the name of a directory: no block before it and none behind, the storage type E and the
-- length of the name. Behind the name there are 75 and seven zeros, and then the date of the creation.
abbrev pub up_to_name : ℕ → List ℕ
up_to_name first = 0 ∷ 0 ∷ 0 ∷ 0 ∷ first ∷ []

abbrev pub behind_name : List ℕ
behind_name = 0x75 ∷ 0 ∷ 0 ∷ 0 ∷ 0 ∷ 0 ∷ 0 ∷ 0 ∷ []

-- Behind the date: two versions, the access bits, 39 bytes an entry and 13 entries a block, no files; the block of the
-- parent that has the entry, the low byte first, the number of the entry in that block, and the size of the parent's
-- entries.
abbrev pub behind_date : ℕ → ℕ → ℕ → List ℕ
behind_date low high number = 0 ∷ 0 ∷ 0xc3 ∷ 39 ∷ 13 ∷ 0 ∷ 0 ∷ low ∷ high ∷ number ∷ 39 ∷ []

-- The one block of a new directory: its header, and twelve slots without an entry. The slots of a block have the
-- numbers from 1 on.
abbrev pub directory_block : List ℕ → Slot → ProDate → List ℕ
directory_block path slot date =
    up_to_name (0xe0 + length (last_name path)) ++ pro_name (last_name path) ++ behind_name ++ date.0
    ++ behind_date (slot.place % 256) (slot.place / 256) (slot.number + 1) ++ replicate 469 0

-- The entry that leads to it: the storage type D, the type of directories, one block, 512 bytes, and the access bits of
-- a new file.
abbrev pub new_entry : List ℕ → Slot → ℕ → ProDate → NewFile
new_entry path slot place date = record {
  storage = 13;
  name = pro_name (last_name path);
  len = length (last_name path);
  kind = 0x0f;
  key = place;
  blocks = 1;
  eof = 512;
  aux = 0;
  access = 0xe3;
  date = date;
  dir = slot.directory;
}

abbrev pub new_entry_bytes : List ℕ → Slot → ℕ → ProDate → List ℕ
new_entry_bytes path slot place date = entry_bytes (new_entry path slot place date)

-- the slot gets the entry, and the parent counts one file more
abbrev pub entering : List (List ℕ) → List ℕ → Slot → ℕ → ProDate → List Write
entering store path slot place date =
    counted_writes More slot.place
    (with_bytes (slot_offset slot.number) (new_entry_bytes path slot place date) (unit_at store slot.place))
    slot.directory store
