-- What is told of an image whose lost places are marked free.
use Rattle.std.specs.Prelude.{◌≡◌, ◌⊎◌, List}
use Rattle.a2_device.specs.Device.{DeviceState}
use Rattle.vol_format.specs.Accepted.{IsVolume}
use Rattle.vol_format.specs.Meaning.{Meaning}
use Rattle.vol_laws.specs.Writes.{Write}
use Rattle.edit_formats.specs.Writes.{device_after}
use Rattle.file_edits.specs.Reclaimed.{HasReclaimed, IsReclaimEdit}
use Rattle.shop_replies.specs.declared.refusal.Refusal.TheVariants as refusals
use Rattle.shop_replies.specs.declared.refusal.Failure.TheVariants as failures
use Rattle.shop_replies.specs.declared.reply.Reply.{Reply}
use Rattle.shop_replies.specs.Reply.{IsMadeReply, failed, made_of, refused}
use Rattle.shop_replies.specs.Volume.{LacksUnit}
use Rattle.shop_changes.specs.ImageBytes.{AreBytesOf, KeepsBytes}

-- It is done: all its writes stand on the device and nothing else has changed, the files stand where they stood and no
-- place is lost, and the reply has the image under the device.
pub record IsReclaimedReply (format : Meaning) (device : DeviceState) (reply : Reply) : Type 0 where
  pub writes : List Write
  pub are_writes : IsReclaimEdit format device.store writes
  pub reclaimed : HasReclaimed format device.store (device_after writes device).store
  pub image : IsMadeReply reply
  pub made : AreBytesOf (device_after writes device) (made_of reply)
  pub kept : KeepsBytes device (made_of reply)

-- The reply: the image with the volume after it; that the volume is not accepted; a failure where a unit can't be read
-- or written; or want of memory.
abbrev pub IsReclaimed : Meaning → DeviceState → Reply → Type 0
IsReclaimed format device reply =
    IsReclaimedReply format device reply
    ⊎ ((reply ≡ refused refusals.Check) × ¬ IsVolume format device.store)
    ⊎ ((reply ≡ failed failures.Device) × LacksUnit device)
    ⊎ (reply ≡ failed failures.Memory)
