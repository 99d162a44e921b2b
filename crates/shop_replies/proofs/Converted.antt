-- The image of the same sectors in another order.
use Rattle.std.proofs.Common.{◌≡◌, ◌∙◌, ℕ, ◌<◌, List, length, sym, ap, subst}
use Rattle.a2_device.specs.declared.order.Order.{Order}
use Rattle.a2_device.specs.declared.order.Order.TheVariants.{Nibble}
use Rattle.a2_image.specs.Converting.{HasAll, MakesTrack}
use Rattle.a2_device.specs.Order.{IsImageLength, blocks_of}
use Rattle.a2_image.specs.Image.{DiskImage, HoldsSectors, IsOfDisk}
use Rattle.a2_image.specs.Tracks.{track_of}
use Rattle.shop_replies.specs.ConvertReply.{IsConverted}
use Rattle.shop_replies.specs.Disk.{IsDiskImage, OfDisk}
use Rattle.shop_replies.proofs.Disks.{disk_length}

-- what is known of an image that was made of the sectors of a disk
pub record IsMadeOf (disk made : DiskImage) (to : Order) (volume : ℕ) : Type 0 where
  pub every : HasAll disk
  pub order : made.order ≡ to
  pub disk_too : IsOfDisk made
  pub sectors : made.sectors ≡ disk.sectors
  pub long : IsImageLength made.order (length made.bytes)
  pub holds : HoldsSectors made.order made.bytes made.sectors
  pub tracks : to ≡ Nibble → (track : ℕ) → track < 35 → MakesTrack (track_of made.bytes track) volume track disk.sectors

made_converted : (disk made : DiskImage) (to : Order) (volume : ℕ) → IsMadeOf disk made to volume → IsConverted disk.sectors to volume made.bytes
made_converted disk made to volume of = record {
  every = λ track sector in_tracks in_track. (of.every track sector in_tracks in_track).has;
  long = disk_length to (length made.bytes) (subst (λ o. IsImageLength o (length made.bytes)) of.order of.long)
      (ap (λ o. blocks_of o (length made.bytes)) (sym of.order) ∙ of.disk_too);
  holds = subst (HoldsSectors to made.bytes) of.sectors (subst (λ o. HoldsSectors o made.bytes made.sectors) of.order of.holds);
  tracks = of.tracks;
}

pub disk_converted : (order to : Order) (volume : ℕ) (image bytes : List ℕ) (disk made : DiskImage) → IsDiskImage order image
    → HoldsSectors order image disk.sectors → IsMadeOf disk made to volume → bytes ≡ made.bytes
    → OfDisk order image (λ sectors. IsConverted sectors to volume bytes)
disk_converted order to volume image bytes disk made long holds of same =
    (long, disk.sectors, holds, subst (IsConverted disk.sectors to volume) (sym same) (made_converted disk made to volume of))
