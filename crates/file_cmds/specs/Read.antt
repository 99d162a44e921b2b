-- What a read of a file answers.
use Rattle.std.specs.Prelude.{◌⊎◌, ℕ, Bool, List}
use Rattle.vol_format.specs.Directory.{Directory}
use Rattle.vol_format.specs.Meaning.{Meaning}
use Rattle.file_formats.specs.FileNames.{FileNameView}
use Rattle.file_formats.specs.Files.{FileMeaning, IsFirstNamed, NamesNone}
use Rattle.file_formats.specs.Listing.{HasHeaderFault}
use Rattle.file_cmds.specs.Text.{IsEntryText, OwnFault}

-- the first file with a name has this text
pub record IsTextAt (format : Meaning) (files : FileMeaning) (store : List (List ℕ)) (name : FileNameView)
    (whole : Bool) (text : List ℕ) : Type 0 where
  pub directory : Directory
  pub described : format.Describes store directory
  pub file : ℕ
  pub first : IsFirstNamed files directory name file
  pub read : IsEntryText format files directory store file whole text

-- the first file with a name has a fault of its own
pub record IsBroken (format : Meaning) (files : FileMeaning) (store : List (List ℕ))
    (name : FileNameView) : Type 0 where
  pub directory : Directory
  pub described : format.Describes store directory
  pub file : ℕ
  pub first : IsFirstNamed files directory name file
  pub fault : OwnFault format directory store file

-- the directory can't be read, or the file can't
abbrev pub IsUnreadable : Meaning → FileMeaning → List (List ℕ) → FileNameView → Type 0
IsUnreadable format files store name = HasHeaderFault format store ⊎ IsBroken format files store name

-- the directory can be read, and has no file with the name
abbrev pub HasNoFile : Meaning → FileMeaning → List (List ℕ) → FileNameView → Type 0
HasNoFile format files store name =
    (directory : Directory) × format.Describes store directory × NamesNone files directory name
