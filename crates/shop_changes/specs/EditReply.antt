-- What is told of an image of which a file is changed.
use Rattle.std.specs.Prelude.{◌≡◌, ◌⊎◌, List}
use Rattle.a2_device.specs.Device.{DeviceState}
use Rattle.vol_format.specs.Meaning.{Meaning}
use Rattle.vol_laws.specs.Writes.{Write}
use Rattle.file_formats.specs.FileNames.{FileNameView}
use Rattle.file_formats.specs.Files.{FileMeaning}
use Rattle.edit_formats.specs.Edited.{HasChanged}
use Rattle.edit_formats.specs.Writes.{device_after}
use Rattle.shop_jobs.specs.Job.{EditView}
use Rattle.shop_replies.specs.declared.refusal.Refusal.{Refusal}
use Rattle.shop_replies.specs.declared.refusal.Failure.TheVariants as failures
use Rattle.shop_replies.specs.declared.reply.Reply.{Reply}
use Rattle.shop_replies.specs.Reply.{IsMadeReply, failed, made_of, refused}
use Rattle.shop_replies.specs.Volume.{LacksUnit}
use Rattle.shop_changes.specs.EditRules.{EditRules}
use Rattle.shop_changes.specs.Edits.{AreWritesOf, IsCause, edited_files}
use Rattle.shop_changes.specs.ImageBytes.{AreBytesOf, KeepsBytes}

-- The edit is done: all its writes stand on the device and nothing else has changed, the files are those of before
-- after the edit of their list, and the reply has the image under the device.
pub record IsEditedReply (edit : EditView) (name : FileNameView) (files : FileMeaning) (rules : EditRules)
    (format : Meaning) (device : DeviceState) (reply : Reply) : Type 0 where
  pub writes : List Write
  pub are_writes : AreWritesOf edit name files rules format device.store writes
  pub changed : HasChanged format (edited_files edit name files rules) device.store (device_after writes device).store
  pub image : IsMadeReply reply
  pub made : AreBytesOf (device_after writes device) (made_of reply)
  pub kept : KeepsBytes device (made_of reply)

-- The reply to an edit: the image with the volume after it; a refusal with its cause; a failure where a unit can't be
-- read or written; or want of memory.
abbrev pub IsEdited : EditView → FileNameView → FileMeaning → EditRules → Meaning → DeviceState → Reply → Type 0
IsEdited edit name files rules format device reply =
    IsEditedReply edit name files rules format device reply
    ⊎ ((refusal : Refusal) × (reply ≡ refused refusal) × IsCause refusal edit name files rules format device.store)
    ⊎ ((reply ≡ failed failures.Device) × LacksUnit device)
    ⊎ (reply ≡ failed failures.Memory)
