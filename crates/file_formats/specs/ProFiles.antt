-- What ProDOS is to the commands on files (ProDOS 8 Technical Reference Manual, Appendix B).
use Rattle.std.specs.Prelude.{ℕ, ◌-◌, ◌==◌, not, Bool, List, ◌++◌, length, take, replicate, slice_index, slice_range, bit_and}
use Rattle.std.specs.Str.{bytes_eq}
use Rattle.pro_dir.specs.Entry.{word, long, storage_of}
use Rattle.pro_dir.specs.Paths.{folded}
use Rattle.vol_format.specs.Directory.{Listed}
use Rattle.file_formats.specs.declared.listing.ListEntry.{ListEntry}
use Rattle.file_formats.specs.FileNames.{FileNameView, GivenPath, StoredPath}
use Rattle.file_formats.specs.Files.{FileMeaning}

-- paths are joined names; the letters of a path as it is given are taken as capitals
abbrev pub pro_matches : FileNameView → List ℕ → Bool
pro_matches (GivenPath path) stored = bytes_eq (folded path) stored
pro_matches (StoredPath bytes) stored = bytes_eq bytes stored

-- a file is locked where destroy, rename and write are not all on
abbrev pub is_locked : ℕ → Bool
is_locked access = not (bit_and access 0xc2 == 0xc2)

-- What is shown of an entry. Its bytes are without the two of the key pointer, so those that stand behind it, from
-- blocks used on, stand two lower than in the block.
abbrev pub pro_shown : {A : Type 0} → Listed → ListEntry A
pro_shown entry = record {
  locked = is_locked (slice_index entry.bytes 0x1c);
  kind = slice_index entry.bytes 0x10;
  size = word entry.bytes 0x11;
  eof = long entry.bytes 0x13;
  access = slice_index entry.bytes 0x1c;
  aux = word entry.bytes 0x1d;
  created = record { 0 = slice_range entry.bytes 0x16 0x1a };
  modified = record { 0 = slice_range entry.bytes 0x1f 0x23 };
  directory = storage_of entry.bytes == 13;
  path = entry.path;
}

-- so many bytes of a text, with zeros behind it where it has less
abbrev pub pro_body : ℕ → List ℕ → List ℕ
pro_body eof text = take eof text ++ replicate (eof - length text) 0

abbrev pub pro_files : FileMeaning
pro_files = record {
  matches = pro_matches;
  shown = pro_shown;
  body = λ bytes text. pro_body (long bytes 0x13) text;
}
