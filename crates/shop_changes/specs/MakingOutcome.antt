-- What becomes of a volume on which a directory is made where it stands.
use Rattle.std.specs.Prelude.{◌≡◌, ℕ, List, IfErr, IsTrue, OnOk, Result, Err}
use Rattle.a2_device.specs.Device.{DeviceState}
use Rattle.vol_format.specs.Accepted.{IsVolume}
use Rattle.vol_format.specs.Meaning.{Meaning}
use Rattle.edit_formats.specs.Writes.{HasEdited}
use Rattle.edit_formats.specs.declared.error.EditError.{EditError}
use Rattle.edit_formats.specs.declared.error.EditError.TheVariants.{Check, Device}
use Rattle.pro_dir.specs.declared.date.ProDate.{ProDate}
use Rattle.file_edits.specs.Directories.{DirectoryMeaning, IsDirectoryEdit}
use Rattle.file_edits.specs.Made.{IsMakingRefusal}
use Rattle.shop_changes.specs.EditOutcome.{TellsEdit}
use Rattle.shop_changes.specs.declared.outcome.Outcome.{Outcome}

-- It was tried, and the outcome tells what was answered. Done, all its writes stand and nothing else has changed, and
-- the directory is there. Stopped by a failure, one was met, a front of the writes stands, none was made after it, and
-- the directory is there or is not. Refused, the volume is not accepted, or has the cause that is told.
pub record IsMakingOutcome (path : List ℕ) (date : ProDate) (directories : DirectoryMeaning) (format : Meaning)
    (old new : DeviceState) (outcome : Outcome) : Type 0 where
  pub result : Result (Unit {0}) EditError
  pub told : TellsEdit result outcome
  pub edited : HasEdited (IsDirectoryEdit directories old.store path date) result old new
  pub refusals : IfErr result IsMakingRefusal
  pub made : IsTrue old.honest → OnOk result (directories.HasMade old.store path date new.store)
  pub stopped : IsTrue old.honest → result ≡ Err Device → directories.IsOldOrMade old.store path date new.store
  pub check : IsTrue old.honest → result ≡ Err Check → ¬ IsVolume format old.store
  pub caused : IsTrue old.honest → IfErr result (directories.IsTold old.store path date)
