-- Names of files in a DOS 3.3 catalog (Beneath Apple DOS, chapter 4).
use Rattle.std.specs.Prelude.{◌≡◌, ℕ, ◌+◌, ◌-◌, ◌==◌, ◌&&◌, not, nat_le, Bool, true, List, length, slice_index}
use Rattle.std.specs.List.{list_all, list_any}
use Rattle.std.specs.Str.{bytes_eq}
use Rattle.dos_catalog.specs.Writes.{slot_offset, with_bytes}
use Rattle.vol_format.specs.Directory.{Listed}
use Rattle.file_formats.specs.DosFiles.{dos_name}
use Rattle.dos_format.specs.Rewriting.{with_name}
use Rattle.edit_formats.specs.Names.{NameMeaning}

-- a byte that a name may have: a character from the space to the tilde that is no comma
abbrev pub is_name_byte : ℕ → Bool
is_name_byte byte = nat_le 0x20 byte && nat_le byte 0x7e && not (byte == 0x2c)

-- a byte that a name may begin with: a capital letter
abbrev pub is_first_byte : ℕ → Bool
is_first_byte byte = nat_le 0x41 byte && nat_le byte 0x5a

-- 1 to 30 characters; the first is a capital letter, and the last is no space
abbrev pub is_dos_name : List ℕ → Bool
is_dos_name name =
    nat_le 1 (length name) && nat_le (length name) 30 && is_first_byte (slice_index name 0)
    && not (slice_index name (length name - 1) == 0x20) && list_all is_name_byte name

-- some entry has a name, by its 30 bytes
abbrev pub is_path_of_one : List ℕ → List Listed → Bool
is_path_of_one name listed = list_any (λ (entry : Listed). bytes_eq entry.path name) listed

-- The catalog is the one directory. A file is locked where bit 80 of its kind is on, which is the first of its entry's
-- bytes; its name stands from byte 03 of its slot on.
abbrev pub dos_names : NameMeaning
dos_names = record {
  may_have = is_dos_name;
  HasBeside = λ store directory file new. is_path_of_one (dos_name new) directory.listed ≡ true;
  keeps = λ bytes. nat_le 0x80 (slice_index bytes 0);
  path = λ new path bytes. dos_name new;
  bytes = λ new bytes. with_name (dos_name new) bytes;
  with_name = λ new entry unit. with_bytes (slot_offset entry.slot + 0x03) (dos_name new) unit;
}
