-- What is read of the parts of the file of an entry.
use Rattle.std.specs.Prelude.{Bool, true, false, ℕ, List, Result, Ok}
use Rattle.a2_device.specs.declared.part.Part.{Part}
use Rattle.vol_format.specs.Directory.{Directory}
use Rattle.vol_format.specs.Layout.{IsPartsOfFile}
use Rattle.vol_format.specs.Meaning.{Meaning}
use Rattle.file_cmds.specs.EachFile.{StandWithin}
use Rattle.file_cmds.specs.Text.{OwnFault}
use Rattle.file_cmds.specs.declared.file_parts.FileParts.{FileParts}
use Rattle.file_cmds.specs.declared.file_parts.FileParts.TheVariants.{Whole, Faulty, Failed}

-- the parts of a file that has no fault of its own, in order
pub record IsPartsAlone (format : Meaning) (directory : Directory) (store : List (List ℕ)) (file : ℕ)
    (parts : List Part) : Type 0 where
  pub faultless : ¬ OwnFault format directory store file
  pub are_parts : IsPartsOfFile format directory store file parts

-- its parts; or it has a fault of its own; or a unit of it could not be read
abbrev pub IsFileParts : {A : Type 0} → Meaning → Directory → List (List ℕ) → ℕ → FileParts A → Type 0
IsFileParts format directory store file (Whole parts) = IsPartsAlone format directory store file parts.items
IsFileParts format directory store file Faulty = OwnFault format directory store file
IsFileParts format directory store file Failed = Unit {0}

-- the parts that are told stand at one of so many places
abbrev pub StandAtPlaces : {A : Type 0} → ℕ → FileParts A → Type 0
StandAtPlaces places (Whole parts) = StandWithin places parts.items
StandAtPlaces places Faulty = Unit {0}
StandAtPlaces places Failed = Unit {0}

-- whether a unit could not be read
abbrev pub has_failed : {A E : Type 0} → Result (FileParts A) E → Bool
has_failed (Ok Failed) = true
has_failed result = false
