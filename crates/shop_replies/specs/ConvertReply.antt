-- The reply to `convert`.
use Rattle.std.specs.Prelude.{◌≡◌, ◌⊎◌, ℕ, ◌<◌, List, Option}
use Rattle.a2_device.specs.declared.order.Order.{Order}
use Rattle.a2_device.specs.declared.order.Order.TheVariants.{Nibble}
use Rattle.a2_image.specs.declared.error.ImageError.{ImageError}
use Rattle.a2_image.specs.declared.error.ImageError.TheVariants as images
use Rattle.a2_image.specs.Converting.{MakesTrack}
use Rattle.a2_image.specs.Image.{HoldsSectors}
use Rattle.a2_image.specs.Tracks.{track_of}
use Rattle.shop_replies.specs.declared.refusal.Refusal.TheVariants as refusals
use Rattle.shop_replies.specs.declared.refusal.Failure.TheVariants as failures
use Rattle.shop_replies.specs.declared.reply.Reply.{Reply}
use Rattle.shop_replies.specs.Reply.{IsMadeReply, failed, made_of, refused}
use Rattle.shop_replies.specs.Disk.{HasEvery, IsDiskImage, LacksOne, OfDisk}

-- These bytes are an image in the wanted order with the same sectors, none of which is missing. In nibble order each
-- track is the one that is made of its sectors, with this volume number.
pub record IsConverted (sectors : List (Option (List ℕ))) (to : Order) (volume : ℕ) (made : List ℕ) : Type 0 where
  pub every : HasEvery sectors
  pub long : IsDiskImage to made
  pub holds : HoldsSectors to made sectors
  pub tracks : to ≡ Nibble → (track : ℕ) → track < 35 → MakesTrack (track_of made track) volume track sectors

-- why an image in this order is not converted
abbrev pub RefusesConversion : Order → List ℕ → ImageError → Type 0
RefusesConversion order image images.Length = ¬ IsDiskImage order image
RefusesConversion order image images.Memory = Unit {0}
RefusesConversion order image images.Number = ⊥
RefusesConversion order image images.NoSector = OfDisk order image LacksOne

-- The reply to `convert` on an image in this order: the image of the same sectors in the wanted order; `Length` for
-- other than a disk's number of bytes; `NoSector` where the disk lacks a sector; and want of memory.
abbrev pub IsConvertReply : Order → Order → ℕ → List ℕ → Reply → Type 0
IsConvertReply order to volume image reply =
    (IsMadeReply reply × OfDisk order image (λ sectors. IsConverted sectors to volume (made_of reply)))
    ⊎ ((reply ≡ refused refusals.Length) × ¬ IsDiskImage order image)
    ⊎ ((reply ≡ refused refusals.NoSector) × OfDisk order image LacksOne)
    ⊎ (reply ≡ failed failures.Memory)
