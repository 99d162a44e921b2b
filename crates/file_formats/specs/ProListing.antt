-- What is shown of an entry of a ProDOS directory, by its 39 bytes and its path.
use Rattle.std.specs.Prelude.{ℕ, List, slice_index, slice_range}
use Rattle.pro_dir.specs.declared.entry.Entry.{Entry}
use Rattle.pro_dir.specs.Entry.{word, long, is_directory}
use Rattle.file_formats.specs.declared.listing.ListEntry.{ListEntry}
use Rattle.file_formats.specs.ProFiles.{is_locked}

abbrev pub pro_list_entry : {A : Type 0} → List ℕ → Entry → ListEntry A
pro_list_entry path entry = record {
  locked = is_locked (slice_index entry.bytes 0x1e);
  kind = slice_index entry.bytes 0x10;
  size = word entry.bytes 0x13;
  eof = long entry.bytes 0x15;
  access = slice_index entry.bytes 0x1e;
  aux = word entry.bytes 0x1f;
  created = record { 0 = slice_range entry.bytes 0x18 0x1c };
  modified = record { 0 = slice_range entry.bytes 0x21 0x25 };
  directory = is_directory entry;
  path = path;
}
