-- What is told of a volume that is listed.
use Rattle.std.specs.Prelude.{◌≡◌, ◌⊎◌, List, []}
use Rattle.a2_device.specs.Device.{DeviceState}
use Rattle.vol_layout.specs.declared.form.PlaceForm.{PlaceForm}
use Rattle.vol_layout.specs.declared.form.PlaceForm.TheVariants.{Sector, Block}
use Rattle.vol_format.specs.Directory.{Directory}
use Rattle.vol_format.specs.Meaning.{Meaning}
use Rattle.file_listings.specs.DosText.{Text}
use Rattle.file_listings.specs.DosEntries.{directory_text as dos_text}
use Rattle.file_listings.specs.Known.{FileFacts}
use Rattle.file_formats.specs.Listing.{HasHeaderFault}
use Rattle.file_listings.specs.ProText.{directory_text as pro_text}
use Rattle.file_listings.specs.declared.style.Style.{Style}
use Rattle.file_listings.specs.declared.style.Style.TheVariants.{Catalog}
use Rattle.shop_replies.specs.declared.reply.Status.{Status}
use Rattle.shop_replies.specs.declared.refusal.Refusal.TheVariants as refusals
use Rattle.shop_replies.specs.declared.refusal.Failure.TheVariants as failures
use Rattle.shop_replies.specs.declared.reply.Reply.{Reply}
use Rattle.shop_replies.specs.Reply.{IsTold, failed, refused, text_of}
use Rattle.shop_replies.specs.declared.reply.Status.TheVariants.{Done}
use Rattle.shop_replies.specs.Volume.{LacksUnit}

-- the listing of a directory in a style, with what is known of the files of its entries: of DOS 3.3, whose places are
-- sectors, or of ProDOS
abbrev pub text_by : Style → PlaceForm → Directory → List FileFacts → Text
text_by style Sector directory facts = dos_text style directory facts
text_by style Block directory facts = pro_text style directory facts

-- a job that ended so told it, or want of memory
abbrev pub TellsListing : Status → Style → PlaceForm → Directory → List FileFacts → Reply → Type 0
TellsListing status style form directory facts reply =
    (IsTold status reply × (text_of reply ≡ text_by style form directory facts)) ⊎ (reply ≡ failed failures.Memory)

-- the listing of what the header, the directory and the map of the volume say
pub record IsListingReply (form : PlaceForm) (format : Meaning) (device : DeviceState) (reply : Reply) : Type 0 where
  pub directory : Directory
  pub described : format.Describes device.store directory
  pub told : TellsListing Done Catalog form directory [] reply

-- The reply to `catalog`: the listing; `Check` where the header, the directory or the map's pointer has a fault; a
-- failure where a unit can't be read; or want of memory.
abbrev pub IsListed : PlaceForm → Meaning → DeviceState → Reply → Type 0
IsListed form format device reply =
    IsListingReply form format device reply
    ⊎ ((reply ≡ refused refusals.Check) × HasHeaderFault format device.store)
    ⊎ ((reply ≡ failed failures.Device) × LacksUnit device)
    ⊎ (reply ≡ failed failures.Memory)
