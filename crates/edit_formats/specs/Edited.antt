-- What edits leave of a volume.
use Rattle.std.specs.Prelude.{◌≡◌, ◌⊎◌, ◌↔◌, ℕ, Bool, List, [], ◌∷◌}
use Rattle.a2_device.specs.Device.{unit_at}
use Rattle.vol_format.specs.Files.{File, HasFiles}
use Rattle.vol_format.specs.Accepted.{IsAccepted, IsVolume}
use Rattle.vol_format.specs.Directory.{Directory, entry_of}
use Rattle.vol_format.specs.Meaning.{Meaning}
use Rattle.file_formats.specs.FileNames.{FileNameView}
use Rattle.file_formats.specs.Files.{FileMeaning, IsFirstNamed, NamesNone}
use Rattle.edit_formats.specs.Edits.{EditMeaning}
use Rattle.vol_laws.specs.Deleted.{IsLostOn}
use Rattle.vol_laws.specs.Writes.{Write}

-- The one write that locks or unlocks the first file with a name, of an accepted volume: into the entry of that file.
pub record IsLockEdit (format : Meaning) (files : FileMeaning) (edits : EditMeaning) (store : List (List ℕ))
    (name : FileNameView) (on : Bool) (writes : List Write) : Type 0 where
  pub directory : Directory
  pub accepted : IsAccepted format directory store
  pub file : ℕ
  pub first : IsFirstNamed files directory name file
  pub are : writes ≡ record {
    place = (entry_of directory file).place;
    unit = edits.with_lock on (entry_of directory file) (unit_at store (entry_of directory file).place);
  } ∷ []

-- the volume is accepted, and has no file with the name
pub record HasNoSuchFile (format : Meaning) (files : FileMeaning) (store : List (List ℕ))
    (name : FileNameView) : Type 0 where
  pub directory : Directory
  pub accepted : IsAccepted format directory store
  pub none : NamesNone files directory name

-- The volume is accepted, its files are those of before after a change of their list, and the same places are lost.
pub record HasChanged (format : Meaning) (change : List File → List File) (old new : List (List ℕ)) : Type 0 where
  pub volume : IsVolume format new
  pub files : (all : List File) → HasFiles format old all → HasFiles format new (change all)
  pub lost : (place : ℕ) → IsLostOn format new place ↔ IsLostOn format old place

-- the same store, or one whose files are changed so
abbrev pub IsOldOrChanged : Meaning → (List File → List File) → List (List ℕ) → List (List ℕ) → Type 0
IsOldOrChanged format change old new = (new ≡ old) ⊎ HasChanged format change old new
