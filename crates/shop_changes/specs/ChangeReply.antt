-- What is told of an image whose volume is changed.
use Rattle.std.specs.Prelude.{◌≡◌, ◌⊎◌}
use Rattle.a2_device.specs.Device.{DeviceState}
use Rattle.shop_replies.specs.declared.refusal.Failure.TheVariants as failures
use Rattle.shop_replies.specs.declared.reply.Reply.{Reply}
use Rattle.shop_replies.specs.declared.reply.Status.TheVariants.{Done}
use Rattle.shop_replies.specs.Reply.{IsHanded, IsInterrupted, IsMadeReply, failed, made_of, text_of}
use Rattle.shop_changes.specs.EditRules.{ChangedMeaning}
use Rattle.shop_changes.specs.Outcome.{report_text}
use Rattle.shop_changes.specs.Work.{WorkView, Optimize, EditOf, MakeDirectory, Reclaim, Replace, Save}
use Rattle.shop_changes.specs.declared.outcome.Outcome.{Outcome}
use Rattle.shop_changes.specs.declared.outcome.Outcome.TheVariants.{Optimized, Changed, Stopped, Unfinished}
use Rattle.shop_changes.specs.EditReply.{IsEdited}
use Rattle.shop_changes.specs.ImageBytes.{AreBytesOf}
use Rattle.shop_changes.specs.MakingReply.{IsDirectoryMade}
use Rattle.shop_changes.specs.OptimizeReply.{IsOptimized}
use Rattle.shop_changes.specs.ReclaimReply.{IsReclaimed}
use Rattle.shop_changes.specs.ReplaceReply.{IsReplaced}
use Rattle.shop_changes.specs.SaveReply.{IsSaidSaved}

-- work that is done on a device that keeps what is written: no file is replaced there
abbrev pub StandsOnDevice : WorkView → Type 0
StandsOnDevice (Replace path said) = ⊥
StandsOnDevice work = Unit {0}

-- what is told of each change of the volume of an image, by the device of its units
abbrev pub IsChangeReply : WorkView → ChangedMeaning → DeviceState → Reply → Type 0
IsChangeReply (Optimize reclaim limit) format device reply = IsOptimized reclaim limit format.units device reply
IsChangeReply (EditOf edit name) format device reply =
    IsEdited edit name format.files format.edits format.units device reply
IsChangeReply (Save path said) format device reply = IsSaidSaved path said format.edits.save format.units device reply
IsChangeReply (Replace path said) format device reply = IsReplaced path said format device reply
IsChangeReply Reclaim format device reply = IsReclaimed format.units device reply
IsChangeReply (MakeDirectory path date) format device reply =
    IsDirectoryMade path date format.directories format.units device reply

-- What is told of what became of the work, with the image that is now under the device: the report, or want of memory
-- for it; `OK`; that the device failed, with the image as it stands. Of work that is not done the reply, and no image.
abbrev pub TellsOutcome : DeviceState → Outcome → Reply → Type 0
TellsOutcome device (Optimized report) reply =
    (IsHanded Done reply × (text_of reply ≡ report_text report) × AreBytesOf device (made_of reply))
    ⊎ (reply ≡ failed failures.Memory)
TellsOutcome device Changed reply = IsMadeReply reply × AreBytesOf device (made_of reply)
TellsOutcome device Stopped reply = IsInterrupted reply × AreBytesOf device (made_of reply)
TellsOutcome device (Unfinished told) reply = reply ≡ told
