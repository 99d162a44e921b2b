-- What DOS 3.3 is to the commands on files (Beneath Apple DOS, chapter 4).
use Rattle.std.specs.Prelude.{ℕ, ◌+◌, ◌-◌, ◌*◌, ◌%◌, ◌==◌, ◌||◌, ◌&&◌, nat_le, Bool, false, if◌then◌else◌, List, ◌++◌, length, map, take, drop, replicate, slice_index, bit_or}
use Rattle.std.specs.Str.{bytes_eq}
use Rattle.pro_dir.specs.declared.date.ProDate.{ProDate}
use Rattle.vol_format.specs.Directory.{Listed}
use Rattle.file_formats.specs.declared.listing.ListEntry.{ListEntry}
use Rattle.file_formats.specs.FileNames.{FileNameView, GivenPath, StoredPath}
use Rattle.file_formats.specs.Files.{FileMeaning}

-- a name as it is stored: high bits on, and spaces up to 30 bytes
abbrev pub dos_name : List ℕ → List ℕ
dos_name path = map (λ byte. bit_or byte 0x80) path ++ replicate (30 - length path) 0xa0

-- stored bytes that are given, with spaces up to 30
abbrev pub filled_name : List ℕ → List ℕ
filled_name bytes = bytes ++ replicate (30 - length bytes) 0xa0

-- Of a path 30 bytes at most are a name, of stored bytes one to 30.
abbrev pub dos_matches : FileNameView → List ℕ → Bool
dos_matches (GivenPath path) stored = nat_le (length path) 30 && bytes_eq (dos_name path) stored
dos_matches (StoredPath bytes) stored =
    nat_le 1 (length bytes) && nat_le (length bytes) 30 && bytes_eq (filled_name bytes) stored

-- DOS 3.3 keeps no dates
abbrev pub no_date : ProDate
no_date = record { 0 = replicate 4 0 }

-- what is shown of an entry: its bytes begin with the kind, and end with the length in sectors
abbrev pub dos_shown : {A : Type 0} → Listed → ListEntry A
dos_shown entry = record {
  locked = nat_le 0x80 (slice_index entry.bytes 0);
  kind = slice_index entry.bytes 0 % 0x80;
  size = slice_index entry.bytes 0x1f + 256 * slice_index entry.bytes 0x20;
  eof = 0;
  access = 0;
  aux = 0;
  created = no_date;
  modified = no_date;
  directory = false;
  path = entry.path;
}

-- a number of two bytes, the low one first
abbrev pub number_at : List ℕ → ℕ → ℕ
number_at text at = slice_index text at + 256 * slice_index text (at + 1)

-- The body of a file: BASIC programs, of kinds 01 and 02, begin with their length; binary files, of kind 04, with an
-- address and their length.
abbrev pub dos_body : ℕ → List ℕ → List ℕ
dos_body kind text =
    if kind == 1 || kind == 2 then take (number_at text 0) (drop 2 text)
    else (if kind == 4 then take (number_at text 2) (drop 4 text) else text)

abbrev pub dos_files : FileMeaning
dos_files = record {
  matches = dos_matches;
  shown = dos_shown;
  body = λ bytes text. dos_body (slice_index bytes 0 % 0x80) text;
}
