-- Names of files in a ProDOS directory (ProDOS 8 Technical Reference Manual, Appendix B).
use Rattle.std.specs.Prelude.{◌≡◌, ◌<◌, ℕ, ◌-◌, ◌==◌, ◌&&◌, ◌||◌, not, nat_le, Bool, true, List, ◌++◌, length, replicate, slice_index, bit_and}
use Rattle.std.specs.List.{list_all, list_any}
use Rattle.std.specs.Str.{bytes_eq}
use Rattle.pro_dir.specs.declared.entry.Entry.{Entry}
use Rattle.pro_dir.specs.Entry.{name_of}
use Rattle.pro_dir.specs.Parents.{entry_in}
use Rattle.pro_dir.specs.Paths.{folded}
use Rattle.pro_dir.specs.Volume.{Directory as Tree, Describes}
use Rattle.pro_dir.specs.Writes.{slot_offset}
use Rattle.pro_format.specs.Rewritten.{access_at, renamed, with_name}
use Rattle.edit_formats.specs.Names.{NameMeaning}

-- letters of either case, digits and the period
abbrev pub is_letter : ℕ → Bool
is_letter byte = (nat_le 0x41 byte && nat_le byte 0x5a) || (nat_le 0x61 byte && nat_le byte 0x7a)

abbrev pub is_name_byte : ℕ → Bool
is_name_byte byte = is_letter byte || (nat_le 0x30 byte && nat_le byte 0x39) || byte == 0x2e

-- 1 to 15 of these; the first is a letter
abbrev pub is_pro_name : List ℕ → Bool
is_pro_name name = nat_le 1 (length name) && nat_le (length name) 15 && is_letter (slice_index name 0)
    && list_all is_name_byte name

-- a name as it is stored: its letters as capitals, and 00 behind it up to 15 bytes
abbrev pub pro_name : List ℕ → List ℕ
pro_name name = folded name ++ replicate (15 - length name) 0

-- some of these entries that stand in a directory, by its key block, has a name
abbrev pub is_name_in : ℕ → List ℕ → List Entry → Bool
is_name_in key name all = list_any
    (λ (entry : Entry). (entry.directory == key) && bytes_eq (name_of entry.bytes) name) all

-- Of the entries of the volume, in the tree of its directories, one that stands in the directory of this one has the
-- name.
pub record HasNameBeside (store : List (List ℕ)) (file : ℕ) (new : List ℕ) : Type 0 where
  pub tree : Tree
  pub described : Describes store tree
  pub inside : file < length tree.entries
  pub named : is_name_in (entry_in tree.entries file).directory (folded new) tree.entries ≡ true

-- An entry keeps its name where the bit 40 of its access bits is off. The name is the last of a path; it and its length
-- stand at the front of an entry.
abbrev pub pro_names : NameMeaning
pro_names = record {
  may_have = is_pro_name;
  HasBeside = λ store directory file new. HasNameBeside store file new;
  keeps = λ bytes. not (bit_and (slice_index bytes access_at) 0x40 == 0x40);
  path = λ new path bytes. renamed path (name_of bytes) (folded new);
  bytes = λ new bytes. with_name 0 (length new) (pro_name new) bytes;
  with_name = λ new entry unit. with_name (slot_offset entry.slot) (length new) (pro_name new) unit;
}
