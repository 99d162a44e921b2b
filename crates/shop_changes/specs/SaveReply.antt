-- What is told of an image to which a file is saved.
use Rattle.std.specs.Prelude.{◌≡◌, ◌⊎◌, ◌<◌, ◌≤◌, ℕ, List, length}
use Rattle.a2_device.specs.Device.{DeviceState}
use Rattle.vol_format.specs.Meaning.{Meaning}
use Rattle.vol_laws.specs.Writes.{Write}
use Rattle.edit_formats.specs.Writes.{device_after}
use Rattle.edit_formats.specs.Saves.{SaveMeaning}
use Rattle.shop_changes.specs.GivenFile.{GivenView, IsTooLongForHead, most_input}
use Rattle.shop_replies.specs.declared.refusal.Refusal.{Refusal}
use Rattle.shop_replies.specs.declared.refusal.Refusal.TheVariants as refusals
use Rattle.shop_replies.specs.declared.refusal.Failure.TheVariants as failures
use Rattle.shop_replies.specs.declared.reply.Reply.{Reply}
use Rattle.shop_replies.specs.Reply.{IsMadeReply, failed, made_of, refused}
use Rattle.shop_replies.specs.Volume.{LacksUnit}
use Rattle.shop_changes.specs.SaidFile.{Gives, GivesNone, SaidView}
use Rattle.shop_changes.specs.Saves.{AreSaveWrites, HasGivenSaved, IsSaveCause}
use Rattle.shop_changes.specs.ImageBytes.{AreBytesOf, KeepsBytes}

-- The file is saved: all its writes stand on the device and nothing else has changed, the files are those of before and
-- this one, and the reply has the image under the device.
pub record IsSavedReply (path : List ℕ) (given : GivenView) (saves : SaveMeaning) (format : Meaning)
    (device : DeviceState) (reply : Reply) : Type 0 where
  pub writes : List Write
  pub are_writes : AreSaveWrites path given saves format device.store writes
  pub saved : HasGivenSaved path given saves format device.store (device_after writes device).store
  pub image : IsMadeReply reply
  pub made : AreBytesOf (device_after writes device) (made_of reply)
  pub kept : KeepsBytes device (made_of reply)

-- the reply to a file that is not too long to be read, nor for its head
abbrev pub IsSaveTried : List ℕ → GivenView → SaveMeaning → Meaning → DeviceState → Reply → Type 0
IsSaveTried path given saves format device reply =
    IsSavedReply path given saves format device reply
    ⊎ ((refusal : Refusal) × (reply ≡ refused refusal) × IsSaveCause refusal path given saves format device.store)
    ⊎ ((reply ≡ failed failures.Device) × LacksUnit device)
    ⊎ (reply ≡ failed failures.Memory)

-- The reply to a saving: more bytes than are read of a file, before a file that is too long for its head, before what
-- the volume tells.
abbrev pub IsSaved : List ℕ → GivenView → SaveMeaning → Meaning → DeviceState → Reply → Type 0
IsSaved path given saves format device reply =
    ((reply ≡ refused refusals.InputTooLong) × (most_input < length given.bytes))
    ⊎ ((length given.bytes ≤ most_input) × (((reply ≡ refused refusals.TooLong) × IsTooLongForHead given)
    ⊎ (¬ IsTooLongForHead given × IsSaveTried path given saves format device reply)))

-- The reply to the saving of a file as words and bytes say it: more bytes than are read of a file, before that they
-- give none, before the saving of the one that they give.
abbrev pub IsSaidSaved : List ℕ → SaidView → SaveMeaning → Meaning → DeviceState → Reply → Type 0
IsSaidSaved path said saves format device reply =
    ((reply ≡ refused refusals.InputTooLong) × (most_input < length said.bytes))
    ⊎ ((length said.bytes ≤ most_input) × (GivesNone said reply
    ⊎ ((given : GivenView) × Gives said given × IsSaved path given saves format device reply)))
