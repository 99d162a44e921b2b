-- What is read of the file of an entry.
use Rattle.std.specs.Prelude.{Bool, true, false, ℕ, List, Result, Ok}
use Rattle.vol_format.specs.Directory.{Directory}
use Rattle.vol_format.specs.Meaning.{Meaning}
use Rattle.file_cmds.specs.Text.{IsWholeTextOf, OwnFault}
use Rattle.file_cmds.specs.declared.file_texts.FileText.{FileText}
use Rattle.file_cmds.specs.declared.file_texts.FileText.TheVariants.{Whole, Faulty, Failed}

-- its whole text; or it has a fault of its own; or a unit of it could not be read
abbrev pub IsFileText : {A : Type 0} → Meaning → Directory → List (List ℕ) → ℕ → FileText A → Type 0
IsFileText format directory store file (Whole text) = IsWholeTextOf format directory store file text.items
IsFileText format directory store file Faulty = OwnFault format directory store file
IsFileText format directory store file Failed = Unit {0}

-- whether a unit could not be read
abbrev pub has_failed : {A E : Type 0} → Result (FileText A) E → Bool
has_failed (Ok Failed) = true
has_failed result = false
