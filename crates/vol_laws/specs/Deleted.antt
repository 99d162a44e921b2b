-- What is left of a volume once the entry of a file is erased, and once its places are marked free.
use Rattle.std.specs.Prelude.{◌⊎◌, ◌↔◌, ℕ, Bool, List}
use Rattle.vol_format.specs.Accepted.{IsAccepted, IsVolume}
use Rattle.vol_format.specs.Directory.{Directory, root_of}
use Rattle.vol_format.specs.Meaning.{Meaning}
use Rattle.vol_format.specs.Standing.{IsLost}
use Rattle.vol_format.specs.Files.{File, HasFiles}
use Rattle.vol_laws.specs.Entered.{IsTaken}
use Rattle.vol_laws.specs.Lists.{without_first}

-- a place that is lost on an accepted volume
abbrev pub IsLostOn : Meaning → List (List ℕ) → ℕ → Type 0
IsLostOn format store place = (directory : Directory) × IsAccepted format directory store
    × IsLost format directory store place

-- The volume is accepted, and its files are those of before without the first that has one of these paths. What was
-- lost still is, and what is lost now was lost before or is a place of the file.
pub record HasEntryErased (format : Meaning) (is_named : List ℕ → Bool) (directory : Directory) (file : ℕ)
    (old new : List (List ℕ)) : Type 0 where
  pub volume : IsVolume format new
  pub files : (all : List File) → HasFiles format old all → HasFiles format new (without_first is_named all)
  pub still : (place : ℕ) → IsLostOn format old place → IsLostOn format new place
  pub lost : (place : ℕ) → IsLostOn format new place
      → IsLostOn format old place ⊎ IsTaken format old (root_of directory file) place

-- The volume is accepted, its files are those of before without the first that has one of these paths, and the same
-- places are lost.
pub record HasFileDeleted (format : Meaning) (is_named : List ℕ → Bool) (old new : List (List ℕ)) : Type 0 where
  pub volume : IsVolume format new
  pub files : (all : List File) → HasFiles format old all → HasFiles format new (without_first is_named all)
  pub lost : (place : ℕ) → IsLostOn format new place ↔ IsLostOn format old place
