-- What becomes of a volume of which a file is changed where it stands.
use Rattle.std.specs.Prelude.{◌≡◌, IfErr, IfSome, IsTrue, OnOk, Result, Ok, Err}
use Rattle.a2_device.specs.Device.{DeviceState}
use Rattle.vol_format.specs.Meaning.{Meaning}
use Rattle.file_formats.specs.FileNames.{FileNameView}
use Rattle.file_formats.specs.Files.{FileMeaning}
use Rattle.edit_formats.specs.Edited.{HasChanged}
use Rattle.edit_formats.specs.Renamed.{IsRenameRefusal}
use Rattle.edit_formats.specs.Writes.{HasEdited}
use Rattle.edit_formats.specs.declared.error.EditError.{EditError}
use Rattle.edit_formats.specs.declared.error.EditError.TheVariants.{Device}
use Rattle.shop_jobs.specs.Job.{EditView}
use Rattle.shop_changes.specs.EditRules.{EditRules}
use Rattle.shop_changes.specs.Edits.{AreWritesOf, IsCause, IsOldOrEdited, edited_files}
use Rattle.shop_changes.specs.Refusals.{refusal_of_edit, reply_to_edit_refusal}
use Rattle.shop_changes.specs.declared.outcome.Outcome.{Outcome}
use Rattle.shop_changes.specs.declared.outcome.Outcome.TheVariants.{Changed, Unfinished}

-- what is told of what a command answered
abbrev pub TellsEdit : {T : Type 0} → Result T EditError → Outcome → Type 0
TellsEdit (Ok done) outcome = outcome ≡ Changed
TellsEdit (Err error) outcome = outcome ≡ Unfinished (reply_to_edit_refusal error)

-- A command was tried, and the outcome tells what it answered. Done, all writes of the edit stand and nothing else has
-- changed, and the files are those of before after the edit of their list. Stopped by a failure, one was met, a front
-- of the writes stands, none was made after it, and the files are those of before or of the edit. Refused, the refusal
-- has its cause.
pub record IsEditOutcome (edit : EditView) (name : FileNameView) (files : FileMeaning) (rules : EditRules)
    (format : Meaning) (old new : DeviceState) (outcome : Outcome) : Type 0 where
  pub result : Result (Unit {0}) EditError
  pub told : TellsEdit result outcome
  pub edited : HasEdited (AreWritesOf edit name files rules format old.store) result old new
  pub refusals : IfErr result IsRenameRefusal
  pub changed : IsTrue old.honest
      → OnOk result (HasChanged format (edited_files edit name files rules) old.store new.store)
  pub stopped : IsTrue old.honest → result ≡ Err Device → IsOldOrEdited edit name files rules format old.store new.store
  pub caused : IsTrue old.honest
      → IfErr result (λ error. IfSome (refusal_of_edit error)
      (λ refusal. IsCause refusal edit name files rules format old.store))
