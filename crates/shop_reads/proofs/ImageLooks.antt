-- What is told of a look at the device of an image is told of the image.
use Rattle.std.proofs.Common.{◌≡◌, ℕ, Bool, List}
use Rattle.std.specs.Prelude.{◌⊎◌, IsTrue, Option}
use Rattle.a2_device.specs.Device.{DeviceState}
use Rattle.file_cmds.specs.lemmas.Reading.{lacking_where_quiet, lacks_where_quiet}
use Rattle.shop_jobs.specs.Job.{LookView}
use Rattle.shop_jobs.specs.declared.input.VolumeOptions.{VolumeOptions}
use Rattle.shop_replies.specs.declared.refusal.Failure.TheVariants as failures
use Rattle.shop_replies.specs.declared.reply.Reply.{Reply}
use Rattle.shop_replies.specs.Reply.{failed}
use Rattle.shop_volumes.specs.VolumeReply.{IsVolumeIn, IsVolumeReply}
use Rattle.shop_volumes.proofs.Fresh.{IsFresh, fails_for_lack}
use Rattle.shop_volumes.proofs.OfImage.{fresh_volume, told_of_image}
use Rattle.shop_reads.specs.GoingOn.{Going, Ends, TellsFile, TellsUnit, FailsForLackBy, FailsForLackIn, ReadsBy, ReadsFor, going_of}

-- what failed under a look, whatever this is, failed for a unit that can't be read
failed_for_lack : (old new : DeviceState) (reply : Reply) → IsFresh old → (going : Going) → ReadsBy going reply old new → FailsForLackBy going reply old new
failed_for_lack old new reply fresh Ends reads = fails_for_lack old new reply fresh reads
failed_for_lack old new reply fresh TellsFile reads = lacks_where_quiet old new fresh.honest fresh.reads
failed_for_lack old new reply fresh TellsUnit reads = lacking_where_quiet old new fresh.honest fresh.reads

module _ (volume : VolumeOptions) (reserve : Option (List ℕ)) (image : List ℕ) (device : DeviceState) (reserved : List Bool)
    (of : IsVolumeIn volume reserve image device reserved) (reply : Reply) where
  pub looked : (look : LookView) (Tells : List Bool → DeviceState → Reply → Type 0) (new : DeviceState) → ReadsFor look reply device new
      → (IsTrue device.honest → FailsForLackIn look reply device new → (reply ≡ failed failures.Memory) ⊎ Tells reserved device reply)
      → IsVolumeReply volume reserve image Tells reply
  looked look Tells new reads told =
      let fresh = fresh_volume volume reserve image device reserved of in
      told_of_image volume reserve image device reserved of Tells reply (told fresh.honest (failed_for_lack device new reply fresh (going_of look) reads))
