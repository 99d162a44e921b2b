-- The reply to `catalog` on a DOS 3.3 disk, in the words of its format: the VTOC and the catalog's sectors.
use Rattle.std.specs.Prelude.{◌≡◌, ◌⊎◌, ℕ, List, length}
use Rattle.a2_device.specs.declared.order.Order.{Order}
use Rattle.a2_device.specs.Device.{DeviceState}
use Rattle.file_formats.specs.Catalog.{HasNoCatalog}
use Rattle.file_listings.specs.DosText.{IsListingText}
use Rattle.shop_jobs.specs.declared.input.FileSystem.TheVariants.{Dos}
use Rattle.shop_replies.specs.declared.refusal.Refusal.TheVariants as refusals
use Rattle.shop_replies.specs.declared.refusal.Failure.TheVariants as failures
use Rattle.shop_replies.specs.declared.reply.Reply.{Reply}
use Rattle.shop_replies.specs.Reply.{IsTold, failed, refused, text_of}
use Rattle.shop_replies.specs.declared.reply.Status.TheVariants.{Done}
use Rattle.shop_replies.specs.Volume.{LacksUnit, OfVolume, TakesBytes}

-- the text of what the VTOC and the entries in use of the catalog's sectors say
abbrev pub TellsCatalog : DeviceState → Reply → Type 0
TellsCatalog device reply = IsTold Done reply × IsListingText device.store (text_of reply)

-- The listing; `Check` for a VTOC of another geometry or a broken catalog chain; a failure where a sector can't be
-- read; or want of memory.
abbrev pub IsDosListed : DeviceState → Reply → Type 0
IsDosListed device reply =
    TellsCatalog device reply
    ⊎ ((reply ≡ refused refusals.Check) × HasNoCatalog device.store)
    ⊎ ((reply ≡ failed failures.Device) × LacksUnit device)
    ⊎ (reply ≡ failed failures.Memory)

-- `Length` for other than a disk's number of bytes; want of memory; or what is told of the disk's sectors
abbrev pub IsDosCatalogReply : Order → List ℕ → Reply → Type 0
IsDosCatalogReply order image reply =
    ((reply ≡ refused refusals.Length) × ¬ TakesBytes Dos order (length image))
    ⊎ (reply ≡ failed failures.Memory)
    ⊎ OfVolume Dos order image (λ device. IsDosListed device reply)
