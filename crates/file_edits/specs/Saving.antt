-- Saving a new file to a volume.
use Rattle.std.specs.Prelude.{ℕ, List, Result}
use Rattle.vol_format.specs.Meaning.{Meaning}
use Rattle.vol_laws.specs.Writes.{Write}
use Rattle.edit_formats.specs.declared.error.EditError.{EditError}
use Rattle.edit_formats.specs.Saves.{SaveMeaning}
use Rattle.file_edits.specs.declared.given.NewFile.{NewFile}
use Rattle.file_edits.specs.Saved.{IsSaveEdit, IsSaveTold}

-- the saving of a file to the volume of a store, by what its format means
pub record Saving : Type 1 where
  pub format : Meaning
  pub saves : SaveMeaning
  pub store : List (List ℕ)
  pub file : NewFile

abbrev pub saving_of : Meaning → SaveMeaning → List (List ℕ) → NewFile → Saving
saving_of format saves store file = record { format = format; saves = saves; store = store; file = file }

-- the writes that do it
abbrev pub AreWritesOf : Saving → List Write → Type 0
AreWritesOf saving writes =
    IsSaveEdit saving.format saving.saves saving.store saving.file.path.now saving.file.attributes.now
    saving.file.stored.now saving.file.units.now writes

-- what is told of it
abbrev pub IsToldOf : {T : Type 0} → Saving → Result T EditError → Type 0
IsToldOf saving result = IsSaveTold saving.format saving.saves saving.store saving.file.path.now
    saving.file.attributes.now saving.file.stored.now result
