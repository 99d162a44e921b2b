-- The entries of a volume as rows of data, and the lines that tell them.
use Rattle.std.specs.Prelude.{◌/◌, ◌%◌, false, List, [], ◌∷◌, ◌++◌, Some, None, option_map, map, flat_map, drop, replicate, if◌then◌else◌}
use Rattle.serde_json.specs.Written.{compact_text}
use Rattle.row_text.specs.Csv.{csv_header, csv_row}
use Rattle.row_text.specs.Row.{RowView, VolumeView, row_data, volume_data}
use Rattle.row_text.specs.Shown.{hex_digit, lower_hex, shown}
use Rattle.vol_layout.specs.declared.form.PlaceForm.TheVariants.{Sector, Block}
use Rattle.row_text.specs.declared.row.Digested.{Digested}
use Rattle.row_text.specs.declared.row.Digested.TheVariants.{Untold, Missing, Of}
use Rattle.row_text.specs.declared.volume.FileSystem.{FileSystem}
use Rattle.pro_dates.specs.ShownDates.{minute_of}
use Rattle.pro_dates.specs.Stamps.{stamp_bytes}
use Rattle.vol_format.specs.Directory.{Directory, entries}
use Rattle.file_formats.specs.Listing.{free_count}
use Rattle.file_formats.specs.declared.listing.ListEntry.{ListEntry}
use Rattle.file_listings.specs.DosText.{Text, letter_of, line, name_part}
use Rattle.file_listings.specs.Known.{FileFacts, no_facts, places_told}
use Rattle.file_listings.specs.declared.style.EntryStyle.{EntryStyle}
use Rattle.file_listings.specs.declared.style.EntryStyle.TheVariants.{Names, Sums, Json, Csv}

-- what is known of the first file
abbrev pub first_facts : List FileFacts → FileFacts
first_facts [] = no_facts
first_facts (facts ∷ others) = facts

-- an entry of DOS 3.3, which keeps no access, no dates and no length in bytes
abbrev pub dos_row : {A : Type 0} → ListEntry A → FileFacts → RowView
dos_row file facts = record {
  access = None;
  aux = facts.address;
  created = None;
  directory = false;
  eof = None;
  kind = file.kind;
  locked = file.locked;
  modified = None;
  path = name_part file.path;
  size = file.size;
  stored = file.path;
  type_word = letter_of file.kind ∷ [];
  digest = facts.digest;
  places = places_told Sector facts.parts;
}

-- an entry of ProDOS
abbrev pub pro_row : {A : Type 0} → ListEntry A → FileFacts → RowView
pro_row file facts = record {
  access = Some file.access;
  aux = Some file.aux;
  created = option_map stamp_bytes (minute_of file.created.0);
  directory = file.directory;
  eof = Some file.eof;
  kind = file.kind;
  locked = file.locked;
  modified = option_map stamp_bytes (minute_of file.modified.0);
  path = file.path;
  size = file.size;
  stored = file.path;
  type_word = 36 ∷ hex_digit (file.kind / 16) ∷ hex_digit (file.kind % 16) ∷ [];
  digest = facts.digest;
  places = places_told Block facts.parts;
}

-- the rows of some entries, each with what is known of its file
abbrev pub rows_of : {A : Type 0} → (ListEntry A → FileFacts → RowView) → List (ListEntry A) → List FileFacts
    → List RowView
rows_of row [] facts = []
rows_of row (file ∷ files) facts = row file (first_facts facts) ∷ rows_of row files (drop 1 facts)

-- ---- lines

-- the digest of a file, hyphens in its place where there is none
abbrev pub sum_text : Digested → Text
sum_text Untold = replicate 64 45
sum_text Missing = replicate 64 45
sum_text (Of digest) = lower_hex digest.sha256

-- the line of an entry
abbrev pub row_line : EntryStyle → RowView → Text
row_line Names row = line (if row.directory then map shown row.path ++ 47 ∷ [] else map shown row.path)
row_line Sums row = if row.directory then [] else line (sum_text row.digest ++ 32 ∷ 32 ∷ map shown row.path)
row_line Json row = line (compact_text (row_data row))
row_line (Csv digests) row = line (csv_row row)

-- what stands before the lines of the entries
abbrev pub head_line : EntryStyle → VolumeView → Text
head_line Names volume = []
head_line Sums volume = []
head_line Json volume = line (compact_text (volume_data volume))
head_line (Csv digests) volume = line (csv_header digests)

abbrev pub rows_text : EntryStyle → VolumeView → List RowView → Text
rows_text style volume rows = head_line style volume ++ flat_map (row_line style) rows

-- what is told of the volume of a directory that has this name
abbrev pub volume_of : FileSystem → Text → Directory → VolumeView
volume_of file_system name directory = record {
  entries = entries directory;
  free = free_count directory;
  file_system = file_system;
  places = directory.places;
  volume = name;
}
