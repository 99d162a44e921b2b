-- What becomes of a volume whose lost places are marked free where it stands.
use Rattle.std.specs.Prelude.{◌≡◌, IfErr, IsTrue, OnOk, Result, Err}
use Rattle.a2_device.specs.Device.{DeviceState}
use Rattle.vol_format.specs.Accepted.{IsVolume}
use Rattle.vol_format.specs.Meaning.{Meaning}
use Rattle.edit_formats.specs.Writes.{HasEdited}
use Rattle.edit_formats.specs.declared.error.EditError.{EditError}
use Rattle.edit_formats.specs.declared.error.EditError.TheVariants.{Check, Device}
use Rattle.file_edits.specs.Reclaimed.{HasReclaimed, IsOldOrReclaimed, IsReclaimEdit, IsReclaimRefusal}
use Rattle.shop_changes.specs.EditOutcome.{TellsEdit}
use Rattle.shop_changes.specs.declared.outcome.Outcome.{Outcome}

-- It was tried, and the outcome tells what was answered. Done, all its writes stand and nothing else has changed, the
-- files stand where they stood, and no place is lost. Stopped by a failure, one was met, a front of the writes stands,
-- none was made after it, and some of the lost places are free. Refused, the volume is not accepted.
pub record IsReclaimOutcome (format : Meaning) (old new : DeviceState) (outcome : Outcome) : Type 0 where
  pub result : Result (Unit {0}) EditError
  pub told : TellsEdit result outcome
  pub edited : HasEdited (IsReclaimEdit format old.store) result old new
  pub refusals : IfErr result IsReclaimRefusal
  pub reclaimed : IsTrue old.honest → OnOk result (HasReclaimed format old.store new.store)
  pub stopped : IsTrue old.honest → result ≡ Err Device → IsOldOrReclaimed format old.store new.store
  pub caused : IsTrue old.honest → result ≡ Err Check → ¬ IsVolume format old.store
