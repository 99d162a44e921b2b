-- The reply to a comparison: it makes no image, what was read of the other image answers for all of it, and it tells a failure
-- of the device where one was met.
use Rattle.std.proofs.Common.{◌≡◌, ◌∙◌, ℕ, ◌+◌, Bool, true, false, List, length, take, ap, subst, sym, inl, inr, refl}
use Rattle.std.proofs.lemmas.Bool.{false≢true}
use Rattle.std.specs.Prelude.{◌⊎◌, IsTrue, Some}
use Rattle.a2_device.specs.declared.order.Order.{Order}
use Rattle.a2_device.specs.Device.{DeviceState}
use Rattle.a2_image.specs.declared.error.ImageError.{ImageError}
use Rattle.a2_image.specs.declared.error.ImageError.TheVariants as images
use Rattle.file_cmds.specs.ReadingOn.{FailedBetween, ReadsOn}
use Rattle.file_cmds.specs.lemmas.Reading.{lacking_where_quiet}
use Rattle.file_formats.specs.Files.{FileMeaning}
use Rattle.vol_layout.specs.declared.form.PlaceForm.{PlaceForm}
use Rattle.vol_format.specs.Meaning.{Meaning}
use Rattle.volume_compare.specs.Comparison.{IsComparison, IsRefused}
use Rattle.volume_compare.specs.declared.error.CompareError.{CompareError}
use Rattle.volume_compare.specs.declared.error.CompareError.TheVariants as compares
use Rattle.volume_compare.specs.declared.finding.Side.TheVariants as volumes
use Rattle.volume_compare.specs.declared.report.Comparison.{Comparison}
use Rattle.shop_jobs.specs.declared.looks.CompareOptions.{CompareOptions}
use Rattle.shop_jobs.specs.declared.input.FileSystem.{FileSystem}
use Rattle.shop_replies.specs.declared.refusal.Side.TheVariants.{Second}
use Rattle.shop_replies.specs.declared.reply.Reply.{Reply}
use Rattle.shop_replies.specs.declared.reply.Status.{Status}
use Rattle.shop_replies.specs.declared.reply.Told.{Told}
use Rattle.shop_replies.specs.Disk.{most_bytes}
use Rattle.shop_replies.specs.Reply.{IsMade, of_image, reply_to_image}
use Rattle.shop_replies.specs.Volume.{LacksUnit, OfVolume, RefusesBytes, TakesBytes}
use Rattle.shop_replies.proofs.Fronts.{OfVolume-whole, TakesBytes-take}
use Rattle.shop_replies.proofs.NotMade.{told_not_made}
use Rattle.shop_reads.specs.CompareReply.{IsCompared, IsComparedWith, TellsComparison, comparison_status, error_reply}
use Rattle.shop_reads.specs.FileSystems.{file_system_of}
use Rattle.shop_reads.specs.GoingOn.{ReadsAll}
use Rattle.shop_volumes.specs.TellingFailures.{fails_device, tells_device}

-- ---- the front of the other image

refuses-take : (file_system : FileSystem) (order : Order) (front bytes : List ℕ) (error : ImageError) → front ≡ take (most_bytes order + 1) bytes
    → RefusesBytes file_system order (length front) error → RefusesBytes file_system order (length bytes) error
refuses-take file_system order front bytes images.Length taken refuses =
    λ takes. refuses (subst (λ (xs : List ℕ). TakesBytes file_system order (length xs)) (sym taken) (TakesBytes-take file_system order bytes takes))
refuses-take file_system order front bytes images.Memory taken refuses = refuses
refuses-take file_system order front bytes images.Number taken refuses = absurd refuses
refuses-take file_system order front bytes images.NoSector taken refuses = absurd refuses

pub compared-take : (options : CompareOptions) (order : Order) (front bytes : List ℕ) (form : PlaceForm) (files : FileMeaning) (format : Meaning) (device : DeviceState) (reply : Reply)
    → front ≡ take (most_bytes order + 1) bytes → IsCompared options order front form files format device reply
    → IsCompared options order bytes form files format device reply
compared-take options order front bytes form files format device reply taken is = elim is [
  | inl refused ↦ inl (refused.0, refuses-take (file_system_of form) order front bytes refused.0 taken refused.1, refused.2)
  | inr told ↦
      let With : DeviceState → Type 0 = λ other. IsComparedWith options form files format device other reply in
      inr (OfVolume-whole (file_system_of form) order bytes With
      (subst (λ (xs : List ℕ). OfVolume (file_system_of form) order xs With) taken told))
]

-- ---- no image

image_refused : (error : ImageError) → ¬ IsMade (of_image Second (reply_to_image error))
image_refused images.Length made = false≢true made
image_refused images.Memory made = false≢true made
image_refused images.Number made = false≢true made
image_refused images.NoSector made = false≢true made

error_not_made : (error : CompareError) → ¬ IsMade (error_reply error)
error_not_made (compares.Check side) made = false≢true made
error_not_made (compares.Device side) made = false≢true made
error_not_made (compares.TooLarge side) made = false≢true made
error_not_made compares.Memory made = false≢true made

pub compared_not_made : (options : CompareOptions) (order : Order) (bytes : List ℕ) (form : PlaceForm) (files : FileMeaning) (format : Meaning) (device : DeviceState) (reply : Reply)
    → IsCompared options order bytes form files format device reply → ¬ IsMade reply
compared_not_made options order bytes form files format device reply is made = elim is [
  | inl refused ↦ image_refused refused.0 (subst (λ (r : Reply). IsMade r) refused.2 made)
  | inr (takes, image, of, compared) ↦ elim compared.told [
    | inl told ↦ told_not_made (comparison_status told.0.equal) reply told.2.0 made
    | inr failed ↦ error_not_made failed.0 (subst (λ (r : Reply). IsMade r) failed.2 made)
  ]
]

-- ---- failures of the device

image_quiet : (error : ImageError) → tells_device (of_image Second (reply_to_image error)) ≡ false
image_quiet images.Length = refl
image_quiet images.Memory = refl
image_quiet images.Number = refl
image_quiet images.NoSector = refl

status_quiet : (equal : Bool) (told : Told) → fails_device (comparison_status equal) told ≡ false
status_quiet true told = refl
status_quiet false told = refl

comparison_quiet : (comparison : Comparison) (reply : Reply) → TellsComparison comparison reply → tells_device reply ≡ false
comparison_quiet comparison reply tells =
    ap (λ (s : Status). fails_device s reply.told) tells.0.0 ∙ status_quiet comparison.equal reply.told

quiet_reads : (reply : Reply) (old new : DeviceState) → tells_device reply ≡ false → ReadsOn old new → ReadsAll reply old new
quiet_reads reply old new quiet reads = record {
  reads = reads;
  told = λ tells honest. absurd (false≢true (sym quiet ∙ tells));
}

pub image_reads : (error : ImageError) (reply : Reply) (old new : DeviceState) → reply ≡ of_image Second (reply_to_image error) → ReadsOn old new
    → ReadsAll reply old new
image_reads error reply old new is reads = quiet_reads reply old new (ap tells_device is ∙ image_quiet error) reads

pub comparison_reads : (comparison : Comparison) (reply : Reply) (old new : DeviceState) → TellsComparison comparison reply → ReadsOn old new
    → ReadsAll reply old new
comparison_reads comparison reply old new tells reads = quiet_reads reply old new (comparison_quiet comparison reply tells) reads

-- a comparison that ended tells that the device failed where a read of the first volume did
module _ (form : PlaceForm) (files : FileMeaning) (format : Meaning) (most : ℕ) (old new other other_new : DeviceState) where
  error_told : (error : CompareError) → IsTrue (tells_device (error_reply error))
      → IsRefused form files format most old new other other_new error → FailedBetween old new
  error_told (compares.Check side) tells refused = absurd (false≢true tells)
  error_told (compares.Device volumes.First) tells refused = refused
  error_told (compares.Device volumes.Second) tells refused = absurd (false≢true tells)
  error_told (compares.TooLarge side) tells refused = absurd (false≢true tells)
  error_told compares.Memory tells refused = absurd (false≢true tells)

  pub error_reads : (error : CompareError) (reply : Reply) → reply ≡ error_reply error → ReadsOn old new
      → (IsTrue old.honest → IsRefused form files format most old new other other_new error) → ReadsAll reply old new
  error_reads error reply is reads refused = record {
    reads = reads;
    told = λ tells honest. error_told error (subst (λ (r : Reply). IsTrue (tells_device r)) is tells) (refused honest);
  }

-- ---- what is told

-- the device of another image is honest
pub other_honest : (file_system : FileSystem) (order : Order) (bytes : List ℕ) (other : DeviceState)
    → OfVolume file_system order bytes (λ state. other ≡ state) → IsTrue other.honest
other_honest file_system order bytes other of = subst (λ (d : DeviceState). IsTrue d.honest) (sym of.3) refl

pub compared_told : (options : CompareOptions) (order : Order) (bytes : List ℕ) (form : PlaceForm) (files : FileMeaning) (format : Meaning) (device now other other_now : DeviceState)
    (reply : Reply) (file_system : FileSystem) → file_system ≡ file_system_of form → OfVolume file_system order bytes (λ state. other ≡ state)
    → IsTrue device.honest → (FailedBetween device now → LacksUnit device)
    → ((comparison : Comparison) × IsComparison options.all form files format options.most device now other other_now comparison × TellsComparison comparison reply)
    ⊎ ((error : CompareError) × IsRefused form files format options.most device now other other_now error × (reply ≡ error_reply error))
    → IsCompared options order bytes form files format device reply
compared_told options order bytes form files format device now other other_now reply file_system same of honest lack told =
    let quiet : other.read_failures ≡ Some 0 = subst (λ (d : DeviceState). d.read_failures ≡ Some 0) (sym of.3) refl in
    let with : IsComparedWith options form files format device other reply = record {
      now = now;
      other_now = other_now;
      lacks = lack;
      unreadable = lacking_where_quiet device now honest;
      other_unreadable = lacking_where_quiet other other_now (other_honest file_system order bytes other of) quiet;
      told = told;
    } in
    let With : DeviceState → Type 0 = λ d. IsComparedWith options form files format device d reply in
    let of_other : OfVolume file_system order bytes With = (of.0, of.1, of.2, subst With of.3 with) in
    inr (subst (λ (fs : FileSystem). OfVolume fs order bytes With) same of_other)
