-- The reply to a job on the volume of an image.
use Rattle.std.specs.Prelude.{◌≡◌, ◌⊎◌, ℕ, Bool, List, Option, length}
use Rattle.a2_device.specs.Device.{DeviceState}
use Rattle.file_listings.specs.DosText.{Text}
use Rattle.shop_jobs.specs.declared.input.VolumeOptions.{VolumeOptions}
use Rattle.shop_replies.specs.declared.refusal.Refusal.TheVariants as refusals
use Rattle.shop_replies.specs.declared.refusal.Failure.TheVariants as failures
use Rattle.shop_replies.specs.declared.reply.Reply.{Reply}
use Rattle.shop_replies.specs.Reply.{failed, refused}
use Rattle.shop_replies.specs.Volume.{HasUnitsOf, OfVolume, TakesBytes, form_of}
use Rattle.shop_volumes.specs.Reserving.{NamesPlaces, OfReserved, ReservesNamed}

-- The reply where there is no volume to work on: `Reserve` for a text that is no list of places, before `Length` for a
-- number of bytes that no image has; or want of memory.
abbrev pub IsUntaken : VolumeOptions → Option Text → List ℕ → Reply → Type 0
IsUntaken volume reserve image reply =
    ((reply ≡ refused refusals.Reserve) × ¬ NamesPlaces (form_of volume.file_system) reserve)
    ⊎ ((reply ≡ refused refusals.Length) × NamesPlaces (form_of volume.file_system) reserve
    × ¬ TakesBytes volume.file_system volume.order (length image))
    ⊎ (reply ≡ failed failures.Memory)

-- these bytes are taken as an image of the volume, which has this device, and the words reserve these places
pub record IsVolumeIn (volume : VolumeOptions) (reserve : Option Text) (image : List ℕ) (device : DeviceState)
    (reserved : List Bool) : Type 0 where
  pub named : ReservesNamed (form_of volume.file_system) reserve reserved
  pub taken : OfVolume volume.file_system volume.order image (λ of_image. device ≡ of_image)
  pub units : HasUnitsOf volume.file_system device

-- there is no volume to work on; or this is what the job tells of the device of the image, where the words reserve
-- these places
abbrev pub IsVolumeReply : VolumeOptions → Option Text → List ℕ → (List Bool → DeviceState → Reply → Type 0) → Reply
    → Type 0
IsVolumeReply volume reserve image Tells reply =
    IsUntaken volume reserve image reply
    ⊎ OfReserved volume.file_system reserve
    (λ reserved. OfVolume volume.file_system volume.order image (λ device. Tells reserved device reply))
