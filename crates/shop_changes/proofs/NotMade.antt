-- Which replies on an image have one, and which have none.
use Rattle.std.proofs.Common.{ℕ, List, None, Some, inl, inr}
use Rattle.std.specs.Prelude.{Option}
use Rattle.a2_device.specs.Device.{DeviceState}
use Rattle.vol_format.specs.Meaning.{Meaning}
use Rattle.file_formats.specs.FileNames.{FileNameView}
use Rattle.file_formats.specs.Files.{FileMeaning}
use Rattle.edit_formats.specs.Saves.{SaveMeaning}
use Rattle.file_forms.specs.declared.form.GivenForm.{GivenForm}
use Rattle.shop_changes.specs.GivenFile.{GivenView}
use Rattle.shop_changes.specs.SaidFile.{IsNotGivenBy, SaidView, TellsBadLine}
use Rattle.pro_dir.specs.declared.date.ProDate.{ProDate}
use Rattle.file_edits.specs.Directories.{DirectoryMeaning}
use Rattle.shop_jobs.specs.Job.{EditView}
use Rattle.shop_replies.specs.declared.refusal.Refusal.TheVariants as refusals
use Rattle.shop_replies.specs.declared.refusal.Failure.TheVariants as failures
use Rattle.shop_replies.specs.declared.reply.Reply.{Reply}
use Rattle.shop_replies.specs.declared.reply.Status.TheVariants.{Refused}
use Rattle.shop_replies.specs.Reply.{IsMade, IsMadeReply}
use Rattle.shop_replies.proofs.NotMade.{failed_not_made, refused_not_made, told_not_made}
use Rattle.shop_changes.specs.EditRules.{ChangedMeaning, EditRules}
use Rattle.shop_changes.specs.EditReply.{IsEdited}
use Rattle.shop_changes.specs.MakingReply.{IsDirectoryMade}
use Rattle.shop_changes.specs.ReclaimReply.{IsReclaimed}
use Rattle.shop_changes.specs.ReplaceReply.{IsPlainReplaced, IsReplaced}
use Rattle.shop_changes.specs.SaveReply.{IsSaidSaved, IsSaved}

-- an edit that makes an image answers with it
pub edited_image : (edit : EditView) (name : FileNameView) (files : FileMeaning) (edits : EditRules) (format : Meaning) (device : DeviceState) (reply : Reply)
    → IsEdited edit name files edits format device reply → IsMade reply → IsMadeReply reply
edited_image edit name files edits format device reply is made = elim is [
  | inl done ↦ done.image
  | inr (inl refused) ↦ absurd (refused_not_made refused.0 reply refused.1 made)
  | inr (inr (inl failed)) ↦ absurd (failed_not_made failures.Device reply failed.0 made)
  | inr (inr (inr failed)) ↦ absurd (failed_not_made failures.Memory reply failed made)
]

-- so does one that marks lost places free
pub reclaimed_image : (format : Meaning) (device : DeviceState) (reply : Reply) → IsReclaimed format device reply → IsMade reply → IsMadeReply reply
reclaimed_image format device reply is made = elim is [
  | inl done ↦ done.image
  | inr (inl refused) ↦ absurd (refused_not_made refusals.Check reply refused.0 made)
  | inr (inr (inl failed)) ↦ absurd (failed_not_made failures.Device reply failed.0 made)
  | inr (inr (inr failed)) ↦ absurd (failed_not_made failures.Memory reply failed made)
]

-- so does one that makes a directory
pub directory_image : (path : List ℕ) (date : ProDate) (directories : DirectoryMeaning) (format : Meaning) (device : DeviceState) (reply : Reply)
    → IsDirectoryMade path date directories format device reply → IsMade reply → IsMadeReply reply
directory_image path date directories format device reply is made = elim is [
  | inl done ↦ done.image
  | inr (inl refused) ↦ absurd (refused_not_made refused.0 reply refused.1 made)
  | inr (inr (inl failed)) ↦ absurd (failed_not_made failures.Device reply failed.0 made)
  | inr (inr (inr failed)) ↦ absurd (failed_not_made failures.Memory reply failed made)
]

-- so does a saving
saved_image : (path : List ℕ) (given : GivenView) (saves : SaveMeaning) (format : Meaning) (device : DeviceState) (reply : Reply)
    → IsSaved path given saves format device reply → IsMade reply → IsMadeReply reply
saved_image path given saves format device reply is made = elim is [
  | inl long ↦ absurd (refused_not_made refusals.InputTooLong reply long.0 made)
  | inr (_, inl long) ↦ absurd (refused_not_made refusals.TooLong reply long.0 made)
  | inr (_, inr (_, inl done)) ↦ done.image
  | inr (_, inr (_, inr (inl refused))) ↦ absurd (refused_not_made refused.0 reply refused.1 made)
  | inr (_, inr (_, inr (inr (inl failed)))) ↦ absurd (failed_not_made failures.Device reply failed.0 made)
  | inr (_, inr (_, inr (inr (inr failed)))) ↦ absurd (failed_not_made failures.Memory reply failed made)
]

no_text_made : (line : ℕ) (reply : Reply) → TellsBadLine line reply → ¬ IsMade reply
no_text_made line reply is made = elim is [
  | inl told ↦ told_not_made Refused reply told.0 made
  | inr failed ↦ failed_not_made failures.Memory reply failed made
]

pub none_made : (said : SaidView) (form : Option GivenForm) (reply : Reply) → IsNotGivenBy said form reply → ¬ IsMade reply
none_made said None reply is made = is
none_made said (Some form) reply is made = elim is [
  | inl bad ↦ no_text_made bad.line reply bad.told made
  | inr (inl single) ↦ refused_not_made refusals.Single reply single.0 made
  | inr (inr (inl type)) ↦ refused_not_made refusals.Type reply type.0 made
  | inr (inr (inr failed)) ↦ failed_not_made failures.Memory reply failed made
]

-- also of a file as words and bytes say it
pub said_image : (path : List ℕ) (said : SaidView) (saves : SaveMeaning) (format : Meaning) (device : DeviceState) (reply : Reply)
    → IsSaidSaved path said saves format device reply → IsMade reply → IsMadeReply reply
said_image path said saves format device reply is made = elim is [
  | inl long ↦ absurd (refused_not_made refusals.InputTooLong reply long.0 made)
  | inr (_, inl none) ↦ absurd (none_made said said.form reply none made)
  | inr (_, inr given) ↦ saved_image path given.0 saves format device reply given.2 made
]

-- and a file that takes the place of another one
plain_replaced_image : (path : List ℕ) (said : SaidView) (unsaid : ℕ) (files : FileMeaning) (rules : EditRules) (format : Meaning) (device : DeviceState) (reply : Reply)
    → IsPlainReplaced path said unsaid files rules format device reply → IsMade reply → IsMadeReply reply
plain_replaced_image path said unsaid files rules format device reply is made = elim is [
  | inl long ↦ absurd (refused_not_made refusals.TooLong reply long.0 made)
  | inr (_, inl refused) ↦ absurd (refused_not_made refusals.Check reply refused.0 made)
  | inr (_, inr (inl refused)) ↦ absurd (refused_not_made refusals.Locked reply refused.0 made)
  | inr (_, inr (inr (inl failed))) ↦ absurd (failed_not_made failures.Device reply failed.0 made)
  | inr (_, inr (inr (inr (inl failed)))) ↦ absurd (failed_not_made failures.Memory reply failed made)
  | inr (_, inr (inr (inr (inr over)))) ↦ saved_image path over.given rules.save format over.reopened reply over.saved made
]

pub replaced_image : (path : List ℕ) (said : SaidView) (format : ChangedMeaning) (device : DeviceState) (reply : Reply)
    → IsReplaced path said format device reply → IsMade reply → IsMadeReply reply
replaced_image path said format device reply is made = elim is [
  | inl long ↦ absurd (refused_not_made refusals.InputTooLong reply long.0 made)
  | inr (_, inl none) ↦ absurd (none_made said said.form reply none made)
  | inr (_, inr plain) ↦ plain_replaced_image path plain.0 _ format.files format.edits format.units device reply plain.2 made
]
