-- What is told of an image on whose volume a directory is made.
use Rattle.std.specs.Prelude.{◌≡◌, ◌⊎◌, ℕ, List}
use Rattle.a2_device.specs.Device.{DeviceState}
use Rattle.vol_format.specs.Accepted.{IsVolume}
use Rattle.vol_format.specs.Meaning.{Meaning}
use Rattle.vol_laws.specs.Writes.{Write}
use Rattle.edit_formats.specs.Writes.{device_after}
use Rattle.edit_formats.specs.declared.error.EditError.TheVariants as edits
use Rattle.pro_dir.specs.declared.date.ProDate.{ProDate}
use Rattle.file_edits.specs.Directories.{DirectoryMeaning}
use Rattle.shop_replies.specs.declared.refusal.Refusal.{Refusal}
use Rattle.shop_replies.specs.declared.refusal.Refusal.TheVariants as refusals
use Rattle.shop_replies.specs.declared.refusal.Failure.TheVariants as failures
use Rattle.shop_replies.specs.declared.reply.Reply.{Reply}
use Rattle.shop_replies.specs.Reply.{IsMadeReply, failed, made_of, refused}
use Rattle.shop_replies.specs.Volume.{LacksUnit}
use Rattle.shop_changes.specs.ImageBytes.{AreBytesOf, KeepsBytes}

-- The directory is made: all its writes stand on the device and nothing else has changed, the files are those of
-- before, and the reply has the image under the device.
pub record IsMadeDirectoryReply (path : List ℕ) (date : ProDate) (directories : DirectoryMeaning) (device : DeviceState)
    (reply : Reply) : Type 0 where
  pub writes : List Write
  pub are_writes : directories.AreWrites device.store path date writes
  pub has_made : directories.HasMade device.store path date (device_after writes device).store
  pub image : IsMadeReply reply
  pub made : AreBytesOf (device_after writes device) (made_of reply)
  pub kept : KeepsBytes device (made_of reply)

-- Why a directory is not made, of several causes the first: the volume is not accepted; it has no such directory; no
-- entry can have the name, or one of the directory has it; the directory has no free slot, or no place is free. Nothing
-- else is told as refused.
abbrev pub IsMakingCause : Refusal → List ℕ → ProDate → DirectoryMeaning → Meaning → List (List ℕ) → Type 0
IsMakingCause refusals.Check path date directories format store = ¬ IsVolume format store
IsMakingCause refusals.NotFound path date directories format store = directories.IsTold store path date edits.NotFound
IsMakingCause refusals.Name path date directories format store = directories.IsTold store path date edits.Name
IsMakingCause refusals.Exists path date directories format store = directories.IsTold store path date edits.Exists
IsMakingCause refusals.DirFull path date directories format store = directories.IsTold store path date edits.DirFull
IsMakingCause refusals.VolumeFull path date directories format store =
    directories.IsTold store path date edits.VolumeFull
IsMakingCause refusal path date directories format store = ⊥

-- The reply: the image with the directory; a refusal with its cause; a failure where a unit can't be read or written;
-- or want of memory.
abbrev pub IsDirectoryMade : List ℕ → ProDate → DirectoryMeaning → Meaning → DeviceState → Reply → Type 0
IsDirectoryMade path date directories format device reply =
    IsMadeDirectoryReply path date directories device reply
    ⊎ ((refusal : Refusal) × (reply ≡ refused refusal)
    × IsMakingCause refusal path date directories format device.store)
    ⊎ ((reply ≡ failed failures.Device) × LacksUnit device)
    ⊎ (reply ≡ failed failures.Memory)
