-- What is told of an image whose files are brought into order.
use Rattle.std.specs.Prelude.{◌≡◌, ◌⊎◌, ℕ, Bool}
use Rattle.std.specs.declared.alloc.Global.{Global}
use Rattle.a2_device.specs.Device.{DeviceState}
use Rattle.vol_format.specs.Meaning.{Meaning}
use Rattle.vol_mover.specs.Report.{IsReported, IsStopped}
use Rattle.vol_mover.specs.declared.progress.StepError.{StepError}
use Rattle.vol_mover.specs.declared.report.Report.{Report}
use Rattle.shop_replies.specs.declared.refusal.Failure.TheVariants as failures
use Rattle.shop_replies.specs.declared.reply.Reply.{Reply}
use Rattle.shop_replies.specs.declared.reply.Status.TheVariants.{Done}
use Rattle.shop_replies.specs.Reply.{IsHanded, IsInterrupted, failed, made_of, text_of}
use Rattle.shop_volumes.specs.Unopened.{IsUnopenedReply}
use Rattle.shop_changes.specs.Outcome.{report_text}
use Rattle.shop_changes.specs.ImageBytes.{AreBytesOf, KeepsBytes}

-- the volume was optimized, as the report says, and this is the image and the text
pub record IsWorkedReply (reclaim : Bool) (limit : ℕ) (format : Meaning) (device : DeviceState)
    (reply : Reply) : Type 0 where
  pub after : DeviceState
  pub report : Report Global
  pub reported : IsReported format (record { reclaim = reclaim }) limit device after report
  pub optimized : IsHanded Done reply
  pub text : text_of reply ≡ report_text report
  pub made : AreBytesOf after (made_of reply)
  pub kept : KeepsBytes device (made_of reply)

-- a step failed, and this is the image as it stands
pub record IsStoppedReply (reclaim : Bool) (limit : ℕ) (format : Meaning) (device : DeviceState)
    (reply : Reply) : Type 0 where
  pub after : DeviceState
  pub error : StepError
  pub stopped : IsStopped format (record { reclaim = reclaim }) limit device after error
  pub interrupted : IsInterrupted reply
  pub made : AreBytesOf after (made_of reply)
  pub kept : KeepsBytes device (made_of reply)

abbrev pub IsOptimized : Bool → ℕ → Meaning → DeviceState → Reply → Type 0
IsOptimized reclaim limit format device reply =
    IsWorkedReply reclaim limit format device reply
    ⊎ IsUnopenedReply reclaim format device reply
    ⊎ IsStoppedReply reclaim limit format device reply
    ⊎ (reply ≡ failed failures.Memory)
