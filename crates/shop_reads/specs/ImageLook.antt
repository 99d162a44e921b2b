-- The reply to a look at the volume of an image.
use Rattle.std.specs.Prelude.{◌≡◌, ℕ, List, Option}
use Rattle.file_listings.specs.DosText.{Text}
use Rattle.shop_jobs.specs.Job.{Compare, LookView}
use Rattle.shop_jobs.specs.declared.input.VolumeOptions.{VolumeOptions}
use Rattle.shop_replies.specs.declared.refusal.Side.TheVariants.{First}
use Rattle.shop_replies.specs.declared.reply.Reply.{Reply}
use Rattle.shop_replies.specs.Reply.{of_image}
use Rattle.shop_reads.specs.Extra.{ExtraView}
use Rattle.shop_reads.specs.Look.{IsLookReply, shown_by}
use Rattle.shop_volumes.specs.VolumeReply.{IsVolumeReply}

-- a comparison says of which of its two images it refuses or fails
abbrev pub sided : LookView → Reply → Reply
sided (Compare options) reply = of_image First reply
sided look reply = reply

-- what the look tells of the volume in these bytes, with what is read beside the image, or why there is no volume in
-- them
pub record IsImageLook (look : LookView) (extra : ExtraView) (volume : VolumeOptions) (reserve : Option Text)
    (image : List ℕ) (reply : Reply) : Type 0 where
  pub plain : Reply
  pub is : IsVolumeReply volume reserve image (λ reserved. IsLookReply look extra (shown_by volume reserved)) plain
  pub told : reply ≡ sided look plain
