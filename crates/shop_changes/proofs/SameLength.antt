-- An image that a change hands out is as long as the one that was read.
use Rattle.std.proofs.Common.{◌≡◌, ◌∙◌, ℕ, Bool, List, [], ◌∷◌, Some, length, ap, refl, sym, inl, inr}
use Rattle.std.proofs.lemmas.Option.{same_Some}
use Rattle.std.specs.Prelude.{Option}
use Rattle.a2_device.specs.Device.{DeviceState, ImageForm, IsSameDevice, written}
use Rattle.vol_format.specs.Meaning.{Meaning}
use Rattle.vol_laws.specs.Writes.{Write}
use Rattle.edit_formats.specs.Writes.{device_after}
use Rattle.edit_formats.specs.Saves.{SaveMeaning}
use Rattle.shop_changes.specs.EditRules.{ChangedMeaning, EditRules}
use Rattle.shop_changes.specs.GivenFile.{GivenView}
use Rattle.shop_changes.specs.SaidFile.{SaidView}
use Rattle.shop_changes.specs.Replaced.{IsMadeWay}
use Rattle.shop_changes.specs.Work.{EditOf, MakeDirectory, Optimize, Reclaim, Replace, Save, WorkView}
use Rattle.shop_jobs.specs.declared.input.VolumeOptions.{VolumeOptions}
use Rattle.shop_replies.proofs.NotMade.{failed_not_made, refused_not_made}
use Rattle.shop_replies.specs.declared.refusal.Failure.TheVariants as failures
use Rattle.shop_replies.specs.declared.refusal.Refusal.TheVariants as refusals
use Rattle.shop_replies.specs.declared.reply.Reply.{Reply}
use Rattle.shop_replies.specs.Reply.{IsMade, made_of}
use Rattle.shop_changes.specs.ChangeReply.{IsChangeReply}
use Rattle.shop_changes.specs.ImageBytes.{AreBytesOf}
use Rattle.file_formats.specs.Files.{FileMeaning}
use Rattle.shop_changes.specs.ReplaceReply.{IsPlainReplaced, IsReplaced}
use Rattle.shop_changes.specs.SaveReply.{IsSaidSaved, IsSaved}
use Rattle.shop_volumes.specs.VolumeReply.{IsVolumeReply}
use Rattle.shop_volumes.proofs.NotMade.{unopened_told_not_made, untaken_not_made}
use Rattle.shop_changes.proofs.NotMade.{none_made}

-- the bytes of an image are as many as the device under it says
as_long : (device : DeviceState) (bytes : List ℕ) (form : ImageForm) → device.image ≡ Some form → AreBytesOf device bytes → length bytes ≡ form.bytes
as_long device bytes form is (image, same, holds, keeps, named, units) =
    ap length same ∙ ap (λ (f : ImageForm). f.bytes) (same_Some _ form (sym named ∙ is))

-- writes leave that
form_after : (writes : List Write) (device : DeviceState) → (device_after writes device).image ≡ device.image
form_after [] device = refl
form_after (write ∷ writes) device = form_after writes (written write.place write.unit device)

module _ (device : DeviceState) (reply : Reply) (form : ImageForm) (is_form : device.image ≡ Some form) where
  after_writes : (writes : List Write) → AreBytesOf (device_after writes device) (made_of reply) → length (made_of reply) ≡ form.bytes
  after_writes writes made = as_long (device_after writes device) (made_of reply) form (form_after writes device ∙ is_form) made

  after_work : (after : DeviceState) → IsSameDevice device after → AreBytesOf after (made_of reply) → length (made_of reply) ≡ form.bytes
  after_work after same made = as_long after (made_of reply) form (same.image ∙ is_form) made

  saved_length : (path : List ℕ) (given : GivenView) (saves : SaveMeaning) (format : Meaning) → IsSaved path given saves format device reply → IsMade reply
      → length (made_of reply) ≡ form.bytes
  saved_length path given saves format is made = elim is [
    | inl long ↦ absurd (refused_not_made refusals.InputTooLong reply long.0 made)
    | inr (_, inl long) ↦ absurd (refused_not_made refusals.TooLong reply long.0 made)
    | inr (_, inr (_, inl done)) ↦ after_writes done.writes done.made
    | inr (_, inr (_, inr (inl refused))) ↦ absurd (refused_not_made refused.0 reply refused.1 made)
    | inr (_, inr (_, inr (inr (inl failed)))) ↦ absurd (failed_not_made failures.Device reply failed.0 made)
    | inr (_, inr (_, inr (inr (inr failed)))) ↦ absurd (failed_not_made failures.Memory reply failed made)
  ]

  said_length : (path : List ℕ) (said : SaidView) (saves : SaveMeaning) (format : Meaning) → IsSaidSaved path said saves format device reply → IsMade reply
      → length (made_of reply) ≡ form.bytes
  said_length path said saves format is made = elim is [
    | inl long ↦ absurd (refused_not_made refusals.InputTooLong reply long.0 made)
    | inr (_, inl none) ↦ absurd (none_made said said.form reply none made)
    | inr (_, inr (given, gives, saved)) ↦ saved_length path given saves format saved made
  ]

-- so of a file that takes the place of another one
module _ (device : DeviceState) (reply : Reply) (form : ImageForm) (is_form : device.image ≡ Some form) where
  -- the device without the old file has the same form, and so it has once it is opened again
  form_without : (path : List ℕ) (said : SaidView) (unsaid : ℕ) (files : FileMeaning) (rules : EditRules) (format : Meaning) (without : DeviceState) (given : GivenView)
      → IsMadeWay path said unsaid files rules format device without given → without.image ≡ Some form
  form_without path said unsaid files rules format without given way = elim way.cleared [
    | inl gone ↦ ap (λ (d : DeviceState). d.image) gone.made ∙ form_after gone.writes device ∙ is_form
    | inr none ↦ ap (λ (d : DeviceState). d.image) none.1 ∙ is_form
  ]

  plain_replaced_length : (path : List ℕ) (said : SaidView) (unsaid : ℕ) (files : FileMeaning) (rules : EditRules) (format : Meaning)
      → IsPlainReplaced path said unsaid files rules format device reply → IsMade reply → length (made_of reply) ≡ form.bytes
  plain_replaced_length path said unsaid files rules format is made = elim is [
    | inl long ↦ absurd (refused_not_made refusals.TooLong reply long.0 made)
    | inr (_, inl refused) ↦ absurd (refused_not_made refusals.Check reply refused.0 made)
    | inr (_, inr (inl refused)) ↦ absurd (refused_not_made refusals.Locked reply refused.0 made)
    | inr (_, inr (inr (inl failed))) ↦ absurd (failed_not_made failures.Device reply failed.0 made)
    | inr (_, inr (inr (inr (inl failed)))) ↦ absurd (failed_not_made failures.Memory reply failed made)
    | inr (_, inr (inr (inr (inr over)))) ↦ saved_length over.reopened reply form
        (over.same.image ∙ form_without path said unsaid files rules format over.without over.given over.way) path over.given rules.save format over.saved made
  ]

  replaced_length : (path : List ℕ) (said : SaidView) (rules : ChangedMeaning) → IsReplaced path said rules device reply → IsMade reply
      → length (made_of reply) ≡ form.bytes
  replaced_length path said rules is made = elim is [
    | inl long ↦ absurd (refused_not_made refusals.InputTooLong reply long.0 made)
    | inr (_, inl none) ↦ absurd (none_made said said.form reply none made)
    | inr (_, inr plain) ↦ plain_replaced_length path plain.0 _ rules.files rules.edits rules.units plain.2 made
  ]

  change_length : (work : WorkView) (rules : ChangedMeaning) → IsChangeReply work rules device reply → IsMade reply → length (made_of reply) ≡ form.bytes
  change_length (Optimize reclaim limit) rules is made = elim is [
    | inl done ↦ after_work device reply form is_form done.after done.reported.worked.device done.made
    | inr (inl unopened) ↦ absurd (unopened_told_not_made unopened.error reply unopened.told made)
    | inr (inr (inl stopped)) ↦ after_work device reply form is_form stopped.after stopped.stopped.worked.device stopped.made
    | inr (inr (inr failed)) ↦ absurd (failed_not_made failures.Memory reply failed made)
  ]
  change_length (EditOf edit name) rules is made = elim is [
    | inl done ↦ after_writes device reply form is_form done.writes done.made
    | inr (inl refused) ↦ absurd (refused_not_made refused.0 reply refused.1 made)
    | inr (inr (inl failed)) ↦ absurd (failed_not_made failures.Device reply failed.0 made)
    | inr (inr (inr failed)) ↦ absurd (failed_not_made failures.Memory reply failed made)
  ]
  change_length Reclaim rules is made = elim is [
    | inl done ↦ after_writes device reply form is_form done.writes done.made
    | inr (inl refused) ↦ absurd (refused_not_made refusals.Check reply refused.0 made)
    | inr (inr (inl failed)) ↦ absurd (failed_not_made failures.Device reply failed.0 made)
    | inr (inr (inr failed)) ↦ absurd (failed_not_made failures.Memory reply failed made)
  ]
  change_length (MakeDirectory path date) rules is made = elim is [
    | inl done ↦ after_writes device reply form is_form done.writes done.made
    | inr (inl refused) ↦ absurd (refused_not_made refused.0 reply refused.1 made)
    | inr (inr (inl failed)) ↦ absurd (failed_not_made failures.Device reply failed.0 made)
    | inr (inr (inr failed)) ↦ absurd (failed_not_made failures.Memory reply failed made)
  ]
  change_length (Save path said) rules is made = said_length device reply form is_form path said rules.edits.save rules.units is made
  change_length (Replace path said) rules is made = replaced_length path said rules is made

-- so the image that is handed out is as long as the one that was read
pub changed_length : (volume : VolumeOptions) (reserve : Option (List ℕ)) (image : List ℕ) (work : WorkView) (rules : List Bool → ChangedMeaning) (reply : Reply)
    → IsVolumeReply volume reserve image (λ reserved. IsChangeReply work (rules reserved)) reply → IsMade reply → length (made_of reply) ≡ length image
changed_length volume reserve image work rules reply is made = elim is [
  | inl untaken ↦ absurd (untaken_not_made volume reserve image reply untaken made)
  | inr (reserved, named, (takes, disk, of, told)) ↦ change_length _ reply _ refl work (rules reserved) told made ∙ ap length of.has_bytes
]
