-- What directories are to a format of volumes.
use Rattle.std.specs.Prelude.{◌≡◌, ◌↔◌, ◌<◌, ℕ, Bool, true, false, List, Some, None, length}
use Rattle.pro_dir.specs.declared.date.ProDate.{ProDate}
use Rattle.pro_format.specs.Pro.{pro_meaning}
use Rattle.vol_format.specs.Accepted.{IsVolume}
use Rattle.vol_format.specs.Files.{File, HasFiles}
use Rattle.vol_format.specs.Meaning.{Meaning}
use Rattle.vol_laws.specs.Deleted.{IsLostOn}
use Rattle.vol_laws.specs.Writes.{Write}
use Rattle.edit_formats.specs.declared.error.EditError.{EditError}
use Rattle.edit_formats.specs.declared.error.EditError.TheVariants.{NotFound}
use Rattle.edit_formats.specs.ProSaves.{IsDirectoryAt}
use Rattle.file_edits.specs.Making.{making}
use Rattle.file_edits.specs.Made.{HasMade as IsMade, IsMaking, IsOldOrMade as IsOldOrMadeIn, IsTold as IsToldIn}

-- `IsThere there store path`: whether a directory has the path. `AreWrites store path date writes`: these writes make
-- the directory. `HasMade store path date new`: it was made, and this is what stands then. `IsOldOrMade store path date
-- new`: it was made or not, and the files are those of before. `IsTold store path date error`: an accepted volume has
-- this cause not to get the directory.
pub record DirectoryMeaning : Type 1 where
  pub IsThere : Bool → List (List ℕ) → List ℕ → Type 0
  pub AreWrites : List (List ℕ) → List ℕ → ProDate → List Write → Type 0
  pub HasMade : List (List ℕ) → List ℕ → ProDate → List (List ℕ) → Type 0
  pub IsOldOrMade : List (List ℕ) → List ℕ → ProDate → List (List ℕ) → Type 0
  pub IsTold : List (List ℕ) → List ℕ → ProDate → EditError → Type 0

-- the writes that make a directory, which are fewer than a device can count
abbrev pub IsDirectoryEdit : DirectoryMeaning → List (List ℕ) → List ℕ → ProDate → List Write → Type 0
IsDirectoryEdit directories store path date writes =
    directories.AreWrites store path date writes × (length writes < 18446744073709551616)

-- A directory that was made leaves an accepted volume with the files of before, and the same places are lost.
pub record KeepsFiles (format : Meaning) (directories : DirectoryMeaning) : Type 0 where
  pub volume : (store : List (List ℕ)) (path : List ℕ) (date : ProDate) (new : List (List ℕ))
      → directories.HasMade store path date new → IsVolume format new
  pub files : (store : List (List ℕ)) (path : List ℕ) (date : ProDate) (new : List (List ℕ))
      → directories.HasMade store path date new
      → (all : List File) → HasFiles format store all → HasFiles format new all
  pub lost : (store : List (List ℕ)) (path : List ℕ) (date : ProDate) (new : List (List ℕ))
      → directories.HasMade store path date new
      → (place : ℕ) → IsLostOn format new place ↔ IsLostOn format store place

-- ---- ProDOS

-- one has the path, or none has it
abbrev pub IsProThere : Bool → List (List ℕ) → List ℕ → Type 0
IsProThere true store path = (key : ℕ) × IsDirectoryAt store path (Some key)
IsProThere false store path = IsDirectoryAt store path None

-- the directories of a volume on which these places are reserved
abbrev pub pro_directories : List Bool → DirectoryMeaning
pro_directories reserved = record {
  IsThere = IsProThere;
  AreWrites = λ store path date. IsMaking (making reserved store path date);
  HasMade = λ store path date. IsMade (making reserved store path date);
  IsOldOrMade = λ store path date. IsOldOrMadeIn (making reserved store path date);
  IsTold = λ store path date. IsToldIn (making reserved store path date);
}

-- ---- DOS 3.3

-- a DOS 3.3 disk has no directories
abbrev pub IsNoneThere : Bool → List (List ℕ) → List ℕ → Type 0
IsNoneThere true store path = ⊥
IsNoneThere false store path = Unit {0}

-- so none is found in which one could be made
abbrev pub IsNoneTold : EditError → Type 0
IsNoneTold NotFound = Unit {0}
IsNoneTold error = ⊥

abbrev pub dos_directories : DirectoryMeaning
dos_directories = record {
  IsThere = IsNoneThere;
  AreWrites = λ store path date writes. ⊥;
  HasMade = λ store path date new. ⊥;
  IsOldOrMade = λ store path date new. new ≡ store;
  IsTold = λ store path date. IsNoneTold;
}
