-- What stands of a volume before the entry of a new file is written, and from then on.
use Rattle.std.specs.Prelude.{◌⊎◌, ◌↔◌, ℕ, List, Contains}
use Rattle.vol_format.specs.Accepted.{IsVolume}
use Rattle.vol_format.specs.Directory.{Directory}
use Rattle.vol_format.specs.Meaning.{Meaning}
use Rattle.vol_format.specs.Files.{File, HasFiles}
use Rattle.vol_laws.specs.Inserted.{insert_at, files_before}
use Rattle.vol_laws.specs.Deleted.{IsLostOn}

-- The volume is accepted, and its files are those of before. What was lost still is, and what is lost now was lost
-- before or is one of these places.
pub record HasNothingSaved (format : Meaning) (places : List ℕ) (old new : List (List ℕ)) : Type 0 where
  pub volume : IsVolume format new
  pub files : (all : List File) → HasFiles format old all → HasFiles format new all
  pub still : (place : ℕ) → IsLostOn format old place → IsLostOn format new place
  pub lost : (place : ℕ) → IsLostOn format new place → IsLostOn format old place ⊎ Contains places place

-- The volume is accepted, its files are those of before and this one, entered before the file of the entry that had its
-- number, and the same places are lost.
pub record HasFileSaved (format : Meaning) (few : Directory) (at : ℕ) (file : File)
    (old new : List (List ℕ)) : Type 0 where
  pub volume : IsVolume format new
  pub files : (all : List File) → HasFiles format old all
      → HasFiles format new (insert_at (files_before few at) file all)
  pub lost : (place : ℕ) → IsLostOn format new place ↔ IsLostOn format old place
