-- What becomes of a volume to which a file is saved where it stands.
use Rattle.std.specs.Prelude.{◌≡◌, ◌⊎◌, ◌<◌, ◌≤◌, ℕ, List, length, IfErr, IfSome, IsTrue, OnOk, Result, Err}
use Rattle.a2_device.specs.Device.{DeviceState}
use Rattle.vol_format.specs.Meaning.{Meaning}
use Rattle.edit_formats.specs.Writes.{HasEdited}
use Rattle.edit_formats.specs.declared.error.EditError.{EditError}
use Rattle.edit_formats.specs.declared.error.EditError.TheVariants.{Device}
use Rattle.file_edits.specs.Saved.{IsSaveRefusal}
use Rattle.shop_changes.specs.GivenFile.{GivenView, IsTooLongForHead, most_input}
use Rattle.edit_formats.specs.Saves.{SaveMeaning}
use Rattle.shop_replies.specs.declared.refusal.Refusal.TheVariants as refusals
use Rattle.shop_replies.specs.declared.refusal.Failure.TheVariants as failures
use Rattle.shop_replies.specs.Reply.{failed, refused}
use Rattle.shop_changes.specs.Refusals.{refusal_of_edit}
use Rattle.shop_changes.specs.Saves.{AreSaveWrites, HasGivenSaved, IsOldOrGivenSaved, IsSaveCause}
use Rattle.shop_changes.specs.EditOutcome.{TellsEdit}
use Rattle.shop_changes.specs.declared.outcome.Outcome.{Outcome}
use Rattle.shop_changes.specs.declared.outcome.Outcome.TheVariants.{Unfinished}

-- The saving was tried, and the outcome tells what was answered. Done, all its writes stand and nothing else has
-- changed, and the files are those of before and this one. Stopped by a failure, one was met, a front of the writes
-- stands, none was made after it, and the files are those of before, or those and this one. Refused, the refusal has
-- its cause.
pub record IsSaveTriedOutcome (path : List ℕ) (given : GivenView) (saves : SaveMeaning) (format : Meaning)
    (old new : DeviceState) (outcome : Outcome) : Type 0 where
  pub result : Result (Unit {0}) EditError
  pub told : TellsEdit result outcome
  pub edited : HasEdited (AreSaveWrites path given saves format old.store) result old new
  pub refusals : IfErr result IsSaveRefusal
  pub saved : IsTrue old.honest → OnOk result (HasGivenSaved path given saves format old.store new.store)
  pub stopped : IsTrue old.honest → result ≡ Err Device → IsOldOrGivenSaved path given saves format old.store new.store
  pub caused : IsTrue old.honest
      → IfErr result (λ error. IfSome (refusal_of_edit error)
      (λ refusal. IsSaveCause refusal path given saves format old.store))

-- More bytes than are read of a file, before a file that is too long for its head and want of memory for its units,
-- before what the volume tells; until then the device is as it was.
abbrev pub IsSaveOutcome : List ℕ → GivenView → SaveMeaning → Meaning → DeviceState → DeviceState → Outcome → Type 0
IsSaveOutcome path given saves format old new outcome =
    ((outcome ≡ Unfinished (refused refusals.InputTooLong)) × (most_input < length given.bytes) × (new ≡ old))
    ⊎ ((outcome ≡ Unfinished (refused refusals.TooLong)) × (length given.bytes ≤ most_input) × IsTooLongForHead given
    × (new ≡ old))
    ⊎ ((outcome ≡ Unfinished (failed failures.Memory)) × (length given.bytes ≤ most_input) × (¬ IsTooLongForHead given)
    × (new ≡ old))
    ⊎ ((length given.bytes ≤ most_input) × (¬ IsTooLongForHead given)
    × IsSaveTriedOutcome path given saves format old new outcome)
