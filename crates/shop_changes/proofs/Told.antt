-- What is told of a change on the device of an image is told of the image.
use Rattle.std.proofs.Common.{◌≡◌, ◌∙◌, ℕ, Bool, List, Some, ap, inl, inr, length, subst, sym}
use Rattle.std.proofs.lemmas.Option.{same_Some}
use Rattle.std.specs.Prelude.{◌⊎◌, Option}
use Rattle.a2_device.specs.Device.{DeviceState, ImageForm}
use Rattle.a2_device.specs.Order.{blocks_of}
use Rattle.shop_jobs.specs.declared.input.FileSystem.{FileSystem}
use Rattle.shop_jobs.specs.declared.input.FileSystem.TheVariants.{Dos}
use Rattle.shop_jobs.specs.declared.input.VolumeOptions.{VolumeOptions}
use Rattle.shop_replies.specs.declared.refusal.Failure.TheVariants as failures
use Rattle.shop_replies.specs.declared.reply.Reply.{Reply}
use Rattle.shop_replies.specs.Reply.{failed}
use Rattle.shop_replies.specs.Volume.{TakesBytes}
use Rattle.shop_replies.proofs.Disks.{blocks_of-disk}
use Rattle.shop_changes.specs.Changing.{IsWorkOutcome, LacksMemory}
use Rattle.shop_changes.specs.EditRules.{ChangedMeaning, changed_by}
use Rattle.shop_changes.specs.Work.{WorkView, Optimize, EditOf, MakeDirectory, Reclaim, Replace, Save}
use Rattle.shop_changes.specs.declared.outcome.Outcome.{Outcome}
use Rattle.shop_changes.specs.ChangeReply.{IsChangeReply, StandsOnDevice, TellsOutcome}
use Rattle.shop_changes.specs.ReplaceReply.{HasDisk, IsOpened}
use Rattle.shop_volumes.specs.VolumeReply.{IsVolumeIn, IsVolumeReply}
use Rattle.shop_changes.proofs.Edited.{edited_told}
use Rattle.shop_volumes.proofs.Fresh.{IsFresh}
use Rattle.shop_volumes.proofs.OfImage.{told_of_image}
use Rattle.shop_changes.proofs.MadeDirectory.{directory_told}
use Rattle.shop_changes.proofs.Optimized.{optimized}
use Rattle.shop_changes.proofs.Reclaimed.{reclaimed_told}
use Rattle.shop_changes.proofs.Saved.{said_told}

module _ (volume : VolumeOptions) (reserve : Option (List ℕ)) (image : List ℕ) (device : DeviceState) (reserved : List Bool)
    (of : IsVolumeIn volume reserve image device reserved) (reply : Reply) where
  pub changed : (work : WorkView) → (reply ≡ failed failures.Memory) ⊎ IsChangeReply work (changed_by volume reserved) device reply
      → IsVolumeReply volume reserve image (λ (reserved : List Bool). IsChangeReply work (changed_by volume reserved)) reply
  changed work told =
      told_of_image volume reserve image device reserved of (λ (reserved : List Bool). IsChangeReply work (changed_by volume reserved)) reply told

  -- the image of a disk has as many blocks as one
  pub has_disk : HasDisk volume.file_system device
  has_disk = λ dos form is_form. disk_form (subst (λ (system : FileSystem). TakesBytes system volume.order (length image)) dos of.taken.0) form is_form where
    disk_form : TakesBytes Dos volume.order (length image) → (form : ImageForm) → device.image ≡ Some form → blocks_of form.order form.bytes ≡ 280
    disk_form long form is_form =
        let has = sym (ap (λ (d : DeviceState). d.image) of.taken.3) ∙ is_form in
        let same : (record { order = of.taken.1.order; bytes = length of.taken.1.bytes; kept = of.taken.1.kept }) ≡ form = same_Some _ form has in
        subst (λ (f : ImageForm). blocks_of f.order f.bytes ≡ 280) same
        (rw (of.taken.2.in_order, of.taken.2.has_bytes) (blocks_of-disk volume.order (length image) long))

  pub is_opened : IsOpened volume.file_system device
  is_opened = (of.taken.1, of.taken.3)

module _ (device : DeviceState) (fresh : IsFresh device) (reply : Reply) where
  work_told : (work : WorkView) (format : ChangedMeaning) (new : DeviceState) (outcome : Outcome) → StandsOnDevice work → IsWorkOutcome work format device new outcome
      → TellsOutcome new outcome reply → IsChangeReply work format device reply
  work_told (Optimize reclaim limit) format new outcome stands is tells = optimized reclaim limit format.units device new fresh reply outcome is tells
  work_told (EditOf edit name) format new outcome stands is tells = edited_told device new fresh edit name format.files format.edits format.units outcome reply is tells
  work_told (Save path said) format new outcome stands is tells = said_told device new fresh path said format.edits.save format.units outcome reply is tells
  work_told (Replace path said) format new outcome stands is tells = absurd stands
  work_told Reclaim format new outcome stands is tells = reclaimed_told device new fresh format.units outcome reply is tells
  work_told (MakeDirectory path date) format new outcome stands is tells = directory_told device new fresh path date format.directories format.units outcome reply is tells

  pub changed_there : (work : WorkView) (format : ChangedMeaning) (new : DeviceState) (outcome : Outcome) → StandsOnDevice work
      → LacksMemory device new outcome ⊎ IsWorkOutcome work format device new outcome → TellsOutcome new outcome reply
      → (reply ≡ failed failures.Memory) ⊎ IsChangeReply work format device reply
  changed_there work format new outcome stands done tells = elim done [
    | inl lacks ↦ inl (subst (λ (o : Outcome). TellsOutcome new o reply) lacks.0 tells)
    | inr works ↦ inr (work_told work format new outcome stands works tells)
  ]
