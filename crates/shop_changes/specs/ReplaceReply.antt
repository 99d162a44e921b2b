-- What is told of an image in which a file takes the place of another one.
use Rattle.std.specs.Prelude.{◌≡◌, ◌⊎◌, ◌<◌, ◌≤◌, ℕ, List, Some, length}
use Rattle.a2_device.specs.Device.{DeviceState, ImageForm}
use Rattle.a2_device.specs.Order.{blocks_of}
use Rattle.a2_image.specs.Image.{DiskImage}
use Rattle.vol_format.specs.Accepted.{IsVolume}
use Rattle.vol_format.specs.Meaning.{Meaning}
use Rattle.edit_formats.specs.Deleted.{HasFirstProtected}
use Rattle.file_formats.specs.FileNames.{GivenPath}
use Rattle.file_formats.specs.Files.{FileMeaning}
use Rattle.shop_changes.specs.EditRules.{ChangedMeaning, EditRules}
use Rattle.shop_changes.specs.GivenFile.{GivenView, most_input}
use Rattle.shop_changes.specs.GivenWords.{kind_unsaid}
use Rattle.shop_changes.specs.Replaced.{IsMadeWay, IsPlainSaid, IsTooLongAsSaid}
use Rattle.shop_changes.specs.SaidFile.{GivesNone, SaidView}
use Rattle.shop_jobs.specs.declared.input.FileSystem.{FileSystem}
use Rattle.shop_jobs.specs.declared.input.FileSystem.TheVariants.{Dos}
use Rattle.shop_replies.specs.declared.refusal.Refusal.TheVariants as refusals
use Rattle.shop_replies.specs.declared.refusal.Failure.TheVariants as failures
use Rattle.shop_replies.specs.declared.reply.Reply.{Reply}
use Rattle.shop_replies.specs.Reply.{failed, refused}
use Rattle.shop_replies.specs.Volume.{LacksUnit, device_of}
use Rattle.shop_changes.specs.SaveReply.{IsSaved}

-- a device as it is opened over an image
abbrev pub IsOpened : FileSystem → DeviceState → Type 0
IsOpened file_system device = (image : DiskImage) × (device ≡ device_of file_system image)

-- where the volume is one of DOS 3.3, the image under the device is one of a disk
abbrev pub HasDisk : FileSystem → DeviceState → Type 0
HasDisk file_system device =
    file_system ≡ Dos → (form : ImageForm) → device.image ≡ Some form → blocks_of form.order form.bytes ≡ 280

-- the same units, in an image of the same form, and those that can't be read are the same
pub record IsReopened (old new : DeviceState) : Type 0 where
  pub places : new.places ≡ old.places
  pub unit_size : new.unit_size ≡ old.unit_size
  pub image : new.image ≡ old.image
  pub store : new.store ≡ old.store
  pub unreadable : new.unreadable ≡ old.unreadable

-- The file is saved on a device that no longer has the first file with its path, nor a call that is counted, where it
-- is given with what the old file leaves to it, or where there is none with the type for that; and so it is told.
pub record IsSavedOver (path : List ℕ) (said : SaidView) (unsaid : ℕ) (files : FileMeaning) (rules : EditRules)
    (format : Meaning) (device : DeviceState) (reply : Reply) : Type 0 where
  pub without : DeviceState
  pub given : GivenView
  pub way : IsMadeWay path said unsaid files rules format device without given
  pub reopened : DeviceState
  pub same : IsReopened without reopened
  pub saved : IsSaved path given rules.save format reopened reply

-- the reply to a file that is given as it is: too long for the head of the type that is said; the volume is not
-- accepted; the old file is locked; a unit of it can't be read or written; want of memory; or what is told of the
-- saving
abbrev pub IsPlainReplaced : List ℕ → SaidView → ℕ → FileMeaning → EditRules → Meaning → DeviceState → Reply → Type 0
IsPlainReplaced path said unsaid files rules format device reply =
    ((reply ≡ refused refusals.TooLong) × IsTooLongAsSaid said)
    ⊎ (¬ IsTooLongAsSaid said × (((reply ≡ refused refusals.Check) × ¬ IsVolume format device.store)
    ⊎ ((reply ≡ refused refusals.Locked) × HasFirstProtected format files rules.erase device.store (GivenPath path))
    ⊎ ((reply ≡ failed failures.Device) × LacksUnit device)
    ⊎ (reply ≡ failed failures.Memory)
    ⊎ IsSavedOver path said unsaid files rules format device reply))

-- The reply to a file that takes the place of another one, as words and bytes say it: more bytes than are read of a
-- file, before that they give none, before the volume.
abbrev pub IsReplaced : List ℕ → SaidView → ChangedMeaning → DeviceState → Reply → Type 0
IsReplaced path said format device reply =
    ((reply ≡ refused refusals.InputTooLong) × (most_input < length said.bytes))
    ⊎ ((length said.bytes ≤ most_input) × (GivesNone said reply
    ⊎ ((plain : SaidView) × IsPlainSaid said said.form plain
    × IsPlainReplaced path plain (kind_unsaid said.file_system said.form) format.files format.edits format.units device
    reply)))
