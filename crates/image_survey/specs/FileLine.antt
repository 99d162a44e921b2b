-- What the content of a volume tells of each of its files.
use Rattle.std.specs.Prelude.{◌≡◌, ℕ, List, [], ◌∷◌, ◌++◌, Option, Some, None, Contains, decimal, length, option_map, unwrap_or, if◌then◌else◌}
use Rattle.std.specs.declared.alloc.Global.{Global}
use Rattle.sha2.specs.Sha256.{sha256}
use Rattle.a2_device.specs.declared.part.Part.{Part}
use Rattle.vol_layout.specs.declared.form.PlaceForm.{PlaceForm}
use Rattle.vol_format.specs.Directory.{Listed, entry_of}
use Rattle.vol_format.specs.Reach.{Reach}
use Rattle.file_formats.specs.DosFiles.{number_at}
use Rattle.file_formats.specs.Files.{FileMeaning}
use Rattle.file_formats.specs.declared.listing.ListEntry.{ListEntry}
use Rattle.file_cmds.specs.Text.{IsWholeTextOf}
use Rattle.row_text.specs.Shown.{Text, lower_hex, upper_hex}
use Rattle.file_cmds.specs.Address.{is_binary}
use Rattle.volume_compare.specs.Contents.{IsUnread, SeenVolume}
use Rattle.image_survey.specs.declared.file_line.FileLine.{FileLine}

-- ---- what a line tells

-- the body of a file whose units hold this text
abbrev pub body_of : FileMeaning → Listed → Option (List ℕ) → Option (List ℕ)
body_of files entry whole = option_map (files.body entry.bytes) whole

abbrev pub size_of : Option (List ℕ) → ℕ
size_of None = 0
size_of (Some body) = length body

-- the aux type; of a binary file of DOS 3.3 the address, the first two bytes of its text, 0 for those that it has not
abbrev pub aux_of : PlaceForm → ListEntry Global → Option (List ℕ) → ℕ
aux_of form entry whole = if is_binary form entry then number_at (unwrap_or whole []) 0 else entry.aux

-- what is told of a file by its entry and its text, where it has one
abbrev pub line_by : PlaceForm → FileMeaning → Listed → Option (List ℕ) → FileLine
line_by form files entry whole = record {
  path = (files.shown {A = Global} entry).path;
  kind = (files.shown {A = Global} entry).kind;
  aux = aux_of form (files.shown entry) whole;
  eof = (files.shown {A = Global} entry).eof;
  bytes = size_of (body_of files entry whole);
  digest = option_map sha256 (body_of files entry whole);
}

-- a unit of a file can't be read
pub record LacksUnitOf (volume : SeenVolume) (unreadable : List ℕ) (file : ℕ) : Type 0 where
  pub part : Part
  pub reached : Reach volume.meaning volume.directory volume.store part
  pub in_file : part.file ≡ file
  pub lacks : Contains unreadable part.place

-- the whole text of a file; none where the file has a fault of its own, or a unit of it can't be read
abbrev pub IsWhole : SeenVolume → List ℕ → ℕ → Option (List ℕ) → Type 0
IsWhole volume unreadable file (Some whole) = IsWholeTextOf volume.meaning volume.directory volume.store file whole
IsWhole volume unreadable file None = IsUnread volume (LacksUnitOf volume unreadable) file

-- what is told of the file of an entry
pub record IsLineOf (volume : SeenVolume) (unreadable : List ℕ) (file : ℕ) (told : FileLine) : Type 0 where
  pub whole : Option (List ℕ)
  pub is_whole : IsWhole volume unreadable file whole
  pub is : told ≡ line_by volume.form volume.files (entry_of volume.directory file) whole

-- ---- the text of a line: the path in hexadecimal, kind, aux type, EOF, and the digest of the body

-- of a file that can't be read a hyphen
abbrev pub digest_text : Option (List ℕ) → Text
digest_text None = 45 ∷ []
digest_text (Some digest) = lower_hex digest

abbrev pub line_text : FileLine → Text
line_text l = upper_hex l.path ++ 32 ∷ decimal l.kind ++ 32 ∷ decimal l.aux ++ 32 ∷ decimal l.eof ++ 32
    ∷ digest_text l.digest
