-- What a format of volumes is to the commands on files.
use Rattle.std.specs.Prelude.{◌≡◌, ◌<◌, ℕ, Bool, true, false, not, ◌&&◌, List}
use Rattle.vol_format.specs.Directory.{Directory, Listed, entries, entry_of, is_directory}
use Rattle.file_formats.specs.FileNames.{FileNameView}
use Rattle.file_formats.specs.declared.listing.ListEntry.{ListEntry}

-- `matches name stored`: the name is that of an entry with this path. `shown entry` is what a listing shows of an
-- entry, and `body bytes text` the body of a file whose entry has these bytes and whose units hold this text.
pub record FileMeaning : Type 1 where
  pub matches : FileNameView → List ℕ → Bool
  pub shown : {A : Type 0} → Listed → ListEntry A
  pub body : List ℕ → List ℕ → List ℕ

-- an entry is a file's, and has this name
abbrev pub is_named : FileMeaning → FileNameView → Listed → Bool
is_named files name entry = not (is_directory entry) && files.matches name entry.path

-- the first file, in directory order, that has a name
pub record IsFirstNamed (files : FileMeaning) (directory : Directory) (name : FileNameView) (file : ℕ) : Type 0 where
  pub inside : file < entries directory
  pub named : is_named files name (entry_of directory file) ≡ true
  pub first : (earlier : ℕ) → earlier < file → is_named files name (entry_of directory earlier) ≡ false

abbrev pub NamesNone : FileMeaning → Directory → FileNameView → Type 0
NamesNone files directory name =
    (file : ℕ) → file < entries directory → is_named files name (entry_of directory file) ≡ false
