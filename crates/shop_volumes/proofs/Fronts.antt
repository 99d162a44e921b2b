-- What was read of an image, up to one byte past the most that it has, answers for all of it.
use Rattle.std.proofs.Common.{ℕ, ◌+◌, Bool, List, take, inl, inr}
use Rattle.std.specs.Prelude.{Option}
use Rattle.a2_device.specs.Device.{DeviceState}
use Rattle.shop_jobs.specs.declared.input.VolumeOptions.{VolumeOptions}
use Rattle.shop_replies.specs.declared.reply.Reply.{Reply}
use Rattle.shop_replies.specs.Disk.{most_bytes}
use Rattle.shop_replies.proofs.Fronts.{OfVolume-whole, TakesBytes-take}
use Rattle.shop_volumes.specs.VolumeReply.{IsVolumeReply}

pub volume-whole : (volume : VolumeOptions) (reserve : Option (List ℕ)) (image : List ℕ) (Tells : List Bool → DeviceState → Reply → Type 0) (reply : Reply)
    → IsVolumeReply volume reserve (take (most_bytes volume.order + 1) image) Tells reply → IsVolumeReply volume reserve image Tells reply
volume-whole volume reserve image Tells reply is = elim is [
  | inl (inl refused) ↦ inl (inl refused)
  | inl (inr (inl long)) ↦ inl (inr (inl (long.0, long.1, λ takes. long.2 (TakesBytes-take volume.file_system volume.order image takes))))
  | inl (inr (inr memory)) ↦ inl (inr (inr memory))
  | inr told ↦ inr (told.0, told.1, OfVolume-whole volume.file_system volume.order image (λ device. Tells told.0 device reply) told.2)
]

-- what is told of each device and each list of reserved places is told of the image
pub volume-told : (volume : VolumeOptions) (reserve : Option (List ℕ)) (image : List ℕ) (Tells Others : List Bool → DeviceState → Reply → Type 0) (reply : Reply)
    → ((reserved : List Bool) (device : DeviceState) → Tells reserved device reply → Others reserved device reply)
    → IsVolumeReply volume reserve image Tells reply → IsVolumeReply volume reserve image Others reply
volume-told volume reserve image Tells Others reply each is = elim is [
  | inl untaken ↦ inl untaken
  | inr told ↦ inr (told.0, told.1, (told.2.0, told.2.1, told.2.2, each told.0 _ told.2.3))
]
