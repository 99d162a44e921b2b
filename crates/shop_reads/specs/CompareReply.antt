-- What is told of a volume whose files are compared with those of another image.
use Rattle.std.specs.Prelude.{◌≡◌, ◌⊎◌, ℕ, Bool, List, Some, Contains, length, if◌then◌else◌}
use Rattle.a2_device.specs.Device.{DeviceState}
use Rattle.a2_device.specs.declared.order.Order.{Order}
use Rattle.a2_image.specs.declared.error.ImageError.{ImageError}
use Rattle.file_cmds.specs.ReadingOn.{FailedAt, FailedBetween}
use Rattle.file_formats.specs.Files.{FileMeaning}
use Rattle.vol_layout.specs.declared.form.PlaceForm.{PlaceForm}
use Rattle.vol_format.specs.Meaning.{Meaning}
use Rattle.volume_compare.specs.Comparison.{IsComparison, IsRefused}
use Rattle.volume_compare.specs.declared.error.CompareError.{CompareError}
use Rattle.volume_compare.specs.declared.error.CompareError.TheVariants as compares
use Rattle.volume_compare.specs.declared.finding.Side.{Side as VolumeSide}
use Rattle.volume_compare.specs.declared.finding.Side.TheVariants as volumes
use Rattle.volume_compare.specs.declared.report.Comparison.{Comparison}
use Rattle.shop_jobs.specs.declared.looks.CompareOptions.{CompareOptions}
use Rattle.shop_replies.specs.declared.refusal.Failure.TheVariants as failures
use Rattle.shop_replies.specs.declared.refusal.Refusal.TheVariants as refusals
use Rattle.shop_replies.specs.declared.refusal.Side.{Side}
use Rattle.shop_replies.specs.declared.refusal.Side.TheVariants.{First, Second}
use Rattle.shop_replies.specs.declared.reply.Reply.{Reply}
use Rattle.shop_replies.specs.declared.reply.Status.{Status}
use Rattle.shop_replies.specs.declared.reply.Status.TheVariants.{Done, Wrong}
use Rattle.shop_replies.specs.declared.reply.Told.TheVariants as tells
use Rattle.shop_replies.specs.Reply.{IsTold, failed, failed_of, of_image, refused_of, reply_to_image}
use Rattle.shop_replies.specs.Volume.{LacksUnit, OfVolume, RefusesBytes}
use Rattle.shop_reads.specs.Extra.{ExtraView, FileBytes, ImageBytes}
use Rattle.shop_reads.specs.FileSystems.{file_system_of}

-- the image whose volume is the first or the second
abbrev pub image_of : VolumeSide → Side
image_of volumes.First = First
image_of volumes.Second = Second

-- why two volumes are not compared
abbrev pub error_reply : CompareError → Reply
error_reply (compares.Check side) = refused_of (image_of side) refusals.Check
error_reply (compares.Device side) = failed_of (image_of side) failures.Device
error_reply (compares.TooLarge side) = refused_of (image_of side) refusals.TooLarge
error_reply compares.Memory = failed failures.Memory

-- a comparison that told more than files that are the same has found something wrong
abbrev pub comparison_status : Bool → Status
comparison_status equal = if equal then Done else Wrong

-- the text of a comparison
abbrev pub TellsComparison : Comparison → Reply → Type 0
TellsComparison comparison reply =
    IsTold (comparison_status comparison.equal) reply × (reply.told ≡ tells.Text comparison.text)

-- Two volumes were compared, and their devices are now so: reads of them may have failed, for want of a unit alone;
-- where no failure is to come, each for want of the very unit that was to be read, as of the other image.
pub record IsComparedWith (options : CompareOptions) (form : PlaceForm) (files : FileMeaning) (format : Meaning)
    (device other : DeviceState) (reply : Reply) : Type 0 where
  pub now : DeviceState
  pub other_now : DeviceState
  pub lacks : FailedBetween device now → LacksUnit device
  pub unreadable : device.read_failures ≡ Some 0 → (place : ℕ) → FailedAt place device now
      → Contains device.unreadable place
  pub other_unreadable : (place : ℕ) → FailedAt place other other_now → Contains other.unreadable place
  pub told :
      ((comparison : Comparison) × IsComparison options.all form files format options.most device now
      other other_now comparison
      × TellsComparison comparison reply)
      ⊎ ((error : CompareError) × IsRefused form files format options.most device now other other_now error
      × (reply ≡ error_reply error))

-- The reply to `compare`, where another image in this order has these bytes: why they are not taken as one; or what is
-- told of the files of the two volumes, or why these are not compared.
abbrev pub IsCompared : CompareOptions → Order → List ℕ → PlaceForm → FileMeaning → Meaning → DeviceState → Reply
    → Type 0
IsCompared options order bytes form files format device reply =
    ((error : ImageError) × RefusesBytes (file_system_of form) order (length bytes) error
    × (reply ≡ of_image Second (reply_to_image error)))
    ⊎ OfVolume (file_system_of form) order bytes
    (λ other. IsComparedWith options form files format device other reply)

-- The same of what is read beside the image. Of bytes that are no image in a known order nothing is compared.
abbrev pub IsComparedBeside : CompareOptions → ExtraView → PlaceForm → FileMeaning → Meaning → DeviceState → Reply
    → Type 0
IsComparedBeside options (ImageBytes order bytes) form files format device reply =
    IsCompared options order bytes form files format device reply
IsComparedBeside options (FileBytes bytes) form files format device reply = reply ≡ refused_of Second refusals.Unknown
