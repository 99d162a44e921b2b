-- What is told of a DOS 3.3 disk that is listed, in the words of its format.
use Rattle.std.proofs.Common.{◌≡◌, ◌∙◌, ℕ, Bool, List, length, ap, subst, sym, inl, inr}
use Rattle.std.proofs.lemmas.List.FromFn.{length-map-range_with_len}
use Rattle.std.specs.Prelude.{None}
use Rattle.a2_device.specs.declared.order.Order.{Order}
use Rattle.a2_image.specs.Image.{DiskImage}
use Rattle.a2_device.specs.Device.{DeviceState}
use Rattle.a2_media.specs.DosPlaces.{sector_at, sectors_by_place}
use Rattle.a2_media.specs.ImageDevice.{length-stored_units}
use Rattle.vol_layout.specs.declared.form.PlaceForm.TheVariants.{Sector}
use Rattle.dos_format.specs.Dos.{dos_meaning}
use Rattle.file_listings.specs.DosText.{IsListingText}
use Rattle.file_listings.specs.lemmas.DosListing.{dos_listing_text, no_dos_listing}
use Rattle.shop_jobs.specs.Job.{Catalog}
use Rattle.shop_jobs.specs.declared.input.FileSystem.{FileSystem}
use Rattle.shop_jobs.specs.declared.input.FileSystem.TheVariants.{Dos}
use Rattle.shop_jobs.specs.declared.input.VolumeOptions.{VolumeOptions}
use Rattle.shop_replies.specs.declared.reply.Reply.{Reply}
use Rattle.shop_replies.specs.Volume.{device_of}
use Rattle.shop_reads.specs.CatalogReply.{IsListed}
use Rattle.shop_reads.specs.Extra.{ExtraView}
use Rattle.shop_reads.specs.Look.{IsLookReply, shown_by}
use Rattle.shop_reads.specs.DosCatalogReply.{IsDosCatalogReply, IsDosListed}
use Rattle.shop_volumes.specs.VolumeReply.{IsVolumeReply}

length-disk : (image : DiskImage) → length (device_of Dos image).store ≡ 560
unfolding sectors_by_place
length-disk image = length-stored_units 256 (sectors_by_place image.sectors) ∙ length-map-range_with_len (sector_at image.sectors) 0 560

listed-dos : (data_disk : Bool) (reserved : List Bool) (device : DeviceState) (reply : Reply) → length device.store ≡ 560
    → IsListed Sector (dos_meaning data_disk reserved) device reply → IsDosListed device reply
listed-dos data_disk reserved device reply size is = elim is [
  | inl shown ↦ elim shown.told [
    | inl told ↦ inl (told.0, subst (λ (text : List ℕ). IsListingText device.store text) (sym told.1) (dos_listing_text data_disk reserved device.store shown.directory shown.described))
    | inr failed ↦ inr (inr (inr failed))
  ]
  | inr (inl fault) ↦ inr (inl (fault.0, no_dos_listing data_disk reserved device.store size fault.1))
  | inr (inr (inl lacks)) ↦ inr (inr (inl lacks))
  | inr (inr (inr memory)) ↦ inr (inr (inr memory))
]

abbrev IsCatalogTold : VolumeOptions → List ℕ → ExtraView → Reply → Type 0
IsCatalogTold volume image extra reply = IsVolumeReply volume None image (λ (reserved : List Bool). IsLookReply Catalog extra (shown_by volume reserved)) reply

reply-dos : (order : Order) (data_disk : Bool) (image : List ℕ) (extra : ExtraView) (reply : Reply)
    → IsCatalogTold (record { file_system = Dos; order = order; data_disk = data_disk }) image extra reply → IsDosCatalogReply order image reply
reply-dos order data_disk image extra reply is = elim is [
  | inl (inl refused) ↦ absurd (refused.1 tt)
  | inl (inr (inl long)) ↦ inl (long.0, long.2)
  | inl (inr (inr memory)) ↦ inr (inl memory)
  | inr told ↦ inr (inr (
    told.2.0,
    told.2.1,
    told.2.2,
    listed-dos data_disk told.0 (device_of Dos told.2.1) reply (length-disk told.2.1) told.2.3,
  ))
]

pub dos_catalog_listed : (volume : VolumeOptions) (image : List ℕ) (extra : ExtraView) (reply : Reply) → volume.file_system ≡ Dos
    → IsVolumeReply volume None image (λ (reserved : List Bool). IsLookReply Catalog extra (shown_by volume reserved)) reply → IsDosCatalogReply volume.order image reply
dos_catalog_listed volume image extra reply dos is =
    let same : volume ≡ record { file_system = Dos; order = volume.order; data_disk = volume.data_disk } =
    ap (λ (system : FileSystem). record { file_system = system; order = volume.order; data_disk = volume.data_disk }) dos in
    reply-dos volume.order volume.data_disk image extra reply (subst (λ (v : VolumeOptions). IsCatalogTold v image extra reply) same is)
