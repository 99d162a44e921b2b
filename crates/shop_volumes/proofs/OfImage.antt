-- What is told of the device of an image is told of the image.
use Rattle.std.proofs.Common.{◌≡◌, ℕ, Bool, List, inl, inr, subst}
use Rattle.std.specs.Prelude.{◌⊎◌, Option}
use Rattle.a2_device.specs.Device.{DeviceState}
use Rattle.shop_jobs.specs.declared.input.VolumeOptions.{VolumeOptions}
use Rattle.shop_replies.specs.declared.refusal.Failure.TheVariants as failures
use Rattle.shop_replies.specs.declared.reply.Reply.{Reply}
use Rattle.shop_replies.specs.Reply.{failed}
use Rattle.shop_volumes.specs.VolumeReply.{IsVolumeIn, IsVolumeReply}
use Rattle.shop_volumes.proofs.Fresh.{IsFresh, image_fresh}

module _ (volume : VolumeOptions) (reserve : Option (List ℕ)) (image : List ℕ) (device : DeviceState) (reserved : List Bool)
    (of : IsVolumeIn volume reserve image device reserved) where
  pub fresh_volume : IsFresh device
  fresh_volume = image_fresh device volume.file_system of.taken.1 of.taken.3

  -- so is want of memory
  pub told_of_image : (Tells : List Bool → DeviceState → Reply → Type 0) (reply : Reply) → (reply ≡ failed failures.Memory) ⊎ Tells reserved device reply
      → IsVolumeReply volume reserve image Tells reply
  told_of_image Tells reply told = elim told [
    | inl memory ↦ inl (inr (inr memory))
    | inr tells ↦ inr (reserved, of.named, (of.taken.0, of.taken.1, of.taken.2, subst (λ (d : DeviceState). Tells reserved d reply) of.taken.3 tells))
  ]
