-- The file that another one replaces.
use Rattle.std.proofs.Common.{◌≡◌, ◌∙◌, ap, subst}
use Rattle.std.specs.Prelude.{◌<◌, ℕ, List, Err, Result}
use Rattle.edit_formats.specs.declared.error.EditError.{EditError}
use Rattle.edit_formats.specs.declared.error.EditError.TheVariants as edits
use Rattle.std.specs.declared.alloc.Global.{Global}
use Rattle.file_cmds.specs.FileText.{IsFileText}
use Rattle.file_cmds.specs.declared.file_texts.FileText.{FileText}
use Rattle.file_cmds.specs.declared.file_texts.FileText.TheVariants.{Faulty}
use Rattle.file_cmds.specs.Text.{OwnFault, other_type, wild_root, wild_pointer, shared}
use Rattle.vol_format.specs.Accepted.{IsAccepted}
use Rattle.vol_format.specs.Directory.{Directory, entries}
use Rattle.vol_format.specs.Meaning.{Meaning}

-- a file of an accepted volume has no fault
pub no_own_fault : (format : Meaning) (directory : Directory) (store : List (List ℕ)) (file : ℕ) → IsAccepted format directory store
    → file < entries directory → OwnFault format directory store file → ⊥
no_own_fault format directory store file accepted within (other_type is) = accepted.no_other_type file within is
no_own_fault format directory store file accepted within (wild_root is) = accepted.no_wild file within is
no_own_fault format directory store file accepted within (wild_pointer part pointer reached in_file link) = (accepted.sound part reached).no_wild pointer link
no_own_fault format directory store file accepted within (shared part other reached other_reached in_file other_in_file same differ) =
    differ (accepted.once part other reached other_reached same)

-- what is told of a file with a fault
pub faulty : {format : Meaning} {directory : Directory} {store : List (List ℕ)} {file : ℕ} (text : FileText Global) → text ≡ Faulty
    → IsFileText format directory store file text → OwnFault format directory store file
faulty {format} {directory} {store} {file} text is told = subst (λ (t : FileText Global). IsFileText format directory store file t) is told

-- an error that is passed on
pub passed_on : {A B : Type 0} (result : Result A EditError) (error : EditError) → result ≡ Err error → result ≡ Err edits.Check
    → (told : Result B EditError) → told ≡ Err error → told ≡ Err edits.Check
passed_on result error is check told was = let same : error ≡ edits.Check = cc in was ∙ ap Err same
