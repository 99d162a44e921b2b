-- The writes that erase the entry of a file in a ProDOS directory (ProDOS 8 Technical Reference Manual, Appendix B).
use Rattle.std.specs.Prelude.{◌≡◌, ◌<◌, ℕ, ◌==◌, not, List, length, slice_index, slice_set, bit_and}
use Rattle.a2_device.specs.Device.{unit_at}
use Rattle.pro_dir.specs.declared.entry.Entry.{Entry}
use Rattle.pro_dir.specs.Parents.{entry_in}
use Rattle.pro_dir.specs.Volume.{Directory as Tree, Describes}
use Rattle.pro_dir.specs.Writes.{slot_offset}
use Rattle.pro_format.specs.Rewritten.{access_at}
use Rattle.vol_laws.specs.Writes.{Write}
use Rattle.edit_formats.specs.declared.counting.FileCount.TheVariants.{Less}
use Rattle.edit_formats.specs.Counting.{counted_writes}
use Rattle.edit_formats.specs.Erasing.{EraseMeaning}

-- a slot without an entry: its storage type and the length of its name are 0
abbrev pub without_entry : ℕ → List ℕ → List ℕ
without_entry slot unit = slice_set unit (slot_offset slot) 0

-- The slot of the entry is made inactive, and the directory counts one file less.
abbrev pub pro_erasing : Entry → List (List ℕ) → List Write
pro_erasing entry store = counted_writes Less entry.place (without_entry entry.slot (unit_at store entry.place))
    entry.directory store

-- These writes erase the entry of a number, in the tree of the volume's directories.
pub record ErasesEntry (store : List (List ℕ)) (file : ℕ) (writes : List Write) : Type 0 where
  pub tree : Tree
  pub described : Describes store tree
  pub inside : file < length tree.entries
  pub are : writes ≡ pro_erasing (entry_in tree.entries file) store

-- A file is not deleted where the bit 80 of its access bits, which enables it to be destroyed, is off.
abbrev pub pro_erasures : EraseMeaning
pro_erasures = record {
  protects = λ bytes. not (bit_and (slice_index bytes access_at) 0x80 == 0x80);
  Erases = λ store directory file writes. ErasesEntry store file writes;
}
