-- The parts of one file of a volume, and where the parts of all its files stand.
use Rattle.std.specs.Prelude.{◌≡◌, ◌↔◌, ◌<◌, ℕ, List, AllPairs, Contains}
use Rattle.a2_device.specs.declared.part.Part.{Part}
use Rattle.vol_format.specs.Accepted.{IsAccepted}
use Rattle.vol_format.specs.Directory.{Directory}
use Rattle.vol_format.specs.Meaning.{Meaning}
use Rattle.vol_format.specs.Reach.{Reach, IsPartsOf}
use Rattle.vol_format.specs.Standing.{layout_of}

-- the parts of the file of an entry, in order
pub record IsPartsOfFile (format : Meaning) (directory : Directory) (store : List (List ℕ)) (entry : ℕ)
    (parts : List Part) : Type 0 where
  pub members : (part : Part) → Contains parts part ↔ (Reach format directory store part × (part.file ≡ entry))
  pub ordered : AllPairs (λ part later. format.rank part < format.rank later) parts

-- A store is a volume, and this is its layout: for each part of its files, in order, the number of its place among the
-- available ones.
pub record HasLayout (format : Meaning) (store : List (List ℕ)) (at : List ℕ) : Type 0 where
  pub directory : Directory
  pub accepted : IsAccepted format directory store
  pub parts : List Part
  pub are_parts : IsPartsOf format directory store parts
  pub is : at ≡ layout_of directory parts
