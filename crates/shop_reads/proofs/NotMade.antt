-- Which looks make something for a file.
use Rattle.std.proofs.Common.{ℕ, Bool, true, false, List, [], ◌∷◌, inl, inr, subst}
use Rattle.std.proofs.lemmas.Bool.{false≢true}
use Rattle.a2_device.specs.Device.{DeviceState}
use Rattle.a2_device.specs.declared.part.Part.{Part}
use Rattle.vol_layout.specs.declared.form.PlaceForm.{PlaceForm}
use Rattle.vol_check.specs.Told.{Told}
use Rattle.vol_format.specs.Directory.{Directory}
use Rattle.vol_format.specs.Meaning.{Meaning}
use Rattle.vol_layout.specs.Layouts.{Placement}
use Rattle.file_formats.specs.FileNames.{FileNameView}
use Rattle.shop_reads.specs.FileNames.{named_by}
use Rattle.file_formats.specs.Files.{FileMeaning}
use Rattle.shop_jobs.specs.Job.{LookView, Catalog, Entries, Check, Compare, Map, Read, Plan, Verify}
use Rattle.shop_jobs.specs.declared.looks.ReadForm.{ReadForm}
use Rattle.shop_replies.specs.declared.refusal.Refusal.TheVariants as refusals
use Rattle.shop_replies.specs.declared.refusal.Failure.TheVariants as failures
use Rattle.shop_replies.specs.declared.reply.Reply.{Reply}
use Rattle.shop_replies.specs.declared.reply.Status.TheVariants.{Done, Wrong}
use Rattle.shop_replies.specs.Reply.{IsMade, IsMadeReply}
use Rattle.shop_replies.proofs.NotMade.{failed_not_made, refused_not_made, told_not_made}
use Rattle.shop_volumes.proofs.NotMade.{unopened_told_not_made}
use Rattle.shop_jobs.specs.declared.looks.ListOptions.{ListOptions}
use Rattle.shop_reads.specs.BodiesReply.{IsCheckedWhole, TellsBodies, unread_parts}
use Rattle.shop_reads.specs.CatalogReply.{IsListed}
use Rattle.shop_reads.specs.EntriesReply.{IsEntriesTold, list_status}
use Rattle.shop_reads.specs.CheckReply.{IsChecked}
use Rattle.shop_reads.specs.Extra.{ExtraView, FileBytes, ImageBytes, given_bytes}
use Rattle.shop_reads.specs.Look.{GoesToFile, IsLookReply, ShownMeaning}
use Rattle.shop_reads.specs.MapReply.{IsMapped}
use Rattle.shop_reads.specs.PlanReply.{IsPlanned}
use Rattle.shop_reads.specs.PlanWords.{IsPlannedInWords}
use Rattle.shop_reads.specs.ReadReply.{IsRead}
use Rattle.shop_reads.specs.VerifyReply.{IsVerdict, IsVerified}
use Rattle.shop_reads.proofs.Compared.{compared_not_made}

checked_not_made : (form : PlaceForm) (format : Meaning) (device : DeviceState) (reply : Reply) → IsChecked form format device reply → ¬ IsMade reply
checked_not_made form format device reply is made = elim is [
  | inl done ↦ told_not_made Done reply done.0 made
  | inr (inl faulty) ↦ told_not_made Wrong reply faulty.0 made
  | inr (inr (inl failed)) ↦ failed_not_made failures.Device reply failed.0 made
  | inr (inr (inr failed)) ↦ failed_not_made failures.Memory reply failed made
]

tells_bodies_not_made : (form : PlaceForm) (files : FileMeaning) (directory : Directory) (told : Told) (parts : List Part) (reply : Reply)
    → TellsBodies form files directory told parts reply → ¬ IsMade reply
tells_bodies_not_made form files directory told [] reply is made = elim is [
  | inl done ↦ told_not_made Done reply done.0 made
  | inr failed ↦ failed_not_made failures.Memory reply failed made
]
tells_bodies_not_made form files directory told (part ∷ parts) reply is made = elim is [
  | inl unread ↦ told_not_made Wrong reply unread.0 made
  | inr failed ↦ failed_not_made failures.Memory reply failed made
]

bodies_not_made : (form : PlaceForm) (files : FileMeaning) (format : Meaning) (device : DeviceState) (reply : Reply)
    → IsCheckedWhole form files format device reply → ¬ IsMade reply
bodies_not_made form files format device reply is made = elim is [
  | inl told ↦ tells_bodies_not_made form files told.directory told.told (unread_parts device.unreadable told.told.parts) reply told.is made
  | inr (inl faulty) ↦ told_not_made Wrong reply faulty.0 made
  | inr (inr (inl failed)) ↦ failed_not_made failures.Device reply failed.0 made
  | inr (inr (inr failed)) ↦ failed_not_made failures.Memory reply failed made
]

mapped_not_made : (form : PlaceForm) (format unreserved : Meaning) (device : DeviceState) (reply : Reply) → IsMapped form format unreserved device reply
    → ¬ IsMade reply
mapped_not_made form format unreserved device reply is made = elim is [
  | inl done ↦ told_not_made Done reply done.0 made
  | inr (inl refused) ↦ refused_not_made refusals.Check reply refused.0 made
  | inr (inr (inl failed)) ↦ failed_not_made failures.Device reply failed.0 made
  | inr (inr (inr failed)) ↦ failed_not_made failures.Memory reply failed made
]

planned_not_made : (reclaim : Bool) (format : Meaning) (device : DeviceState) (reply : Reply) → IsPlanned reclaim format device reply → ¬ IsMade reply
planned_not_made reclaim format device reply is made = elim is [
  | inl planned ↦ elim planned.told [
    | inl told ↦ told_not_made Done reply told.0 made
    | inr failed ↦ failed_not_made failures.Memory reply failed made
  ]
  | inr unopened ↦ unopened_told_not_made unopened.error reply unopened.told made
]

planned_in_words_not_made : (form : PlaceForm) (files : FileMeaning) (reclaim : Bool) (format : Meaning) (device : DeviceState) (reply : Reply)
    → IsPlannedInWords form files reclaim format device reply → ¬ IsMade reply
planned_in_words_not_made form files reclaim format device reply is made = elim is [
  | inl planned ↦ elim planned.told [
    | inl told ↦ told_not_made Done reply told.0 made
    | inr failed ↦ failed_not_made failures.Memory reply failed made
  ]
  | inr unopened ↦ unopened_told_not_made unopened.error reply unopened.told made
]

verdict_not_made : (layout : Placement) (bytes : List ℕ) (reply : Reply) → IsVerdict layout bytes reply → ¬ IsMade reply
verdict_not_made layout bytes reply is made = elim is [
  | inl optimal ↦ told_not_made Done reply optimal.done made
  | inr (inl other) ↦ elim other.told [
    | inl told ↦ told_not_made Wrong reply told.1 made
    | inr failed ↦ failed_not_made failures.Memory reply failed made
  ]
  | inr (inr (inl none)) ↦ told_not_made Wrong reply none.faulty made
  | inr (inr (inr failed)) ↦ failed_not_made failures.Memory reply failed made
]

verified_not_made : (reclaim : Bool) (bytes : List ℕ) (format : Meaning) (device : DeviceState) (reply : Reply) → IsVerified reclaim bytes format device reply → ¬ IsMade reply
verified_not_made reclaim bytes format device reply is made = elim is [
  | inl long ↦ refused_not_made refusals.InputTooLong reply long.0 made
  | inr short ↦ elim short.1 [
    | inl verdict ↦ verdict_not_made verdict.volume.layout bytes reply verdict.verdict made
    | inr unopened ↦ unopened_told_not_made unopened.error reply unopened.told made
  ]
]

listed_not_made : (form : PlaceForm) (format : Meaning) (device : DeviceState) (reply : Reply) → IsListed form format device reply → ¬ IsMade reply
listed_not_made form format device reply is made = elim is [
  | inl listed ↦ elim listed.told [
    | inl told ↦ told_not_made Done reply told.0 made
    | inr failed ↦ failed_not_made failures.Memory reply failed made
  ]
  | inr (inl refused) ↦ refused_not_made refusals.Check reply refused.0 made
  | inr (inr (inl failed)) ↦ failed_not_made failures.Device reply failed.0 made
  | inr (inr (inr failed)) ↦ failed_not_made failures.Memory reply failed made
]

entries_not_made : (options : ListOptions) (form : PlaceForm) (files : FileMeaning) (format : Meaning) (device : DeviceState) (reply : Reply)
    → IsEntriesTold options form files format device reply → ¬ IsMade reply
entries_not_made options form files format device reply is made = elim is [
  | inl listed ↦ elim listed.told [
    | inl told ↦ told_not_made (list_status listed.complete) reply told.0 made
    | inr failed ↦ failed_not_made failures.Memory reply failed made
  ]
  | inr (inl refused) ↦ refused_not_made refusals.Check reply refused.0 made
  | inr (inr (inl refused)) ↦ refused_not_made refusals.TooLarge reply refused.0 made
  | inr (inr (inr (inl failed))) ↦ failed_not_made failures.Device reply failed.0 made
  | inr (inr (inr (inr failed))) ↦ failed_not_made failures.Memory reply failed made
]

read_not_made : (name : FileNameView) (form : ReadForm) (place : PlaceForm) (files : FileMeaning) (format : Meaning) (device : DeviceState) (reply : Reply)
    → IsRead name form false place files format device reply → ¬ IsMade reply
read_not_made name form place files format device reply is made = elim is [
  | inl content ↦ told_not_made Done reply content.0 made
  | inr (inl refused) ↦ refused_not_made refusals.Form reply refused.0 made
  | inr (inr (inl refused)) ↦ refused_not_made refusals.Check reply refused.0 made
  | inr (inr (inr (inl refused))) ↦ refused_not_made refusals.NotFound reply refused.0 made
  | inr (inr (inr (inr (inl failed)))) ↦ failed_not_made failures.Device reply failed.0 made
  | inr (inr (inr (inr (inr failed)))) ↦ failed_not_made failures.Memory reply failed made
]

-- a read whose bytes go to a new file answers with them
read_made : (name : FileNameView) (form : ReadForm) (place : PlaceForm) (files : FileMeaning) (format : Meaning) (device : DeviceState) (reply : Reply)
    → IsRead name form true place files format device reply → IsMade reply → IsMadeReply reply
read_made name form place files format device reply is made = elim is [
  | inl content ↦ content.0
  | inr (inl refused) ↦ absurd (refused_not_made refusals.Form reply refused.0 made)
  | inr (inr (inl refused)) ↦ absurd (refused_not_made refusals.Check reply refused.0 made)
  | inr (inr (inr (inl refused))) ↦ absurd (refused_not_made refusals.NotFound reply refused.0 made)
  | inr (inr (inr (inr (inl failed)))) ↦ absurd (failed_not_made failures.Device reply failed.0 made)
  | inr (inr (inr (inr (inr failed)))) ↦ absurd (failed_not_made failures.Memory reply failed made)
]

-- a look that makes something has a new file for it, and answers with `OK`
pub look_made : (look : LookView) (extra : ExtraView) (format : ShownMeaning) (device : DeviceState) (reply : Reply) → IsLookReply look extra format device reply
    → IsMade reply → GoesToFile look × IsMadeReply reply
look_made Catalog extra format device reply is made = absurd (listed_not_made format.form format.units device reply is made)
look_made (Entries options) extra format device reply is made = absurd (entries_not_made options format.form format.files format.units device reply is made)
look_made (Check false) extra format device reply is made = absurd (checked_not_made format.form format.units device reply is made)
look_made (Check true) extra format device reply is made = absurd (bodies_not_made format.form format.files format.units device reply is made)
look_made Map extra format device reply is made = absurd (mapped_not_made format.form format.units format.unreserved device reply is made)
look_made (Compare options) (FileBytes bytes) format device reply is made =
    absurd (false≢true (subst (λ (r : Reply). IsMade r) is made))
look_made (Compare options) (ImageBytes order bytes) format device reply is made =
    absurd (compared_not_made options order bytes format.form format.files format.units device reply is made)
look_made (Read name form false) extra format device reply is made =
    absurd (read_not_made (named_by name) form format.form format.files format.units device reply is made)
look_made (Read name form true) extra format device reply is made =
    (tt, read_made (named_by name) form format.form format.files format.units device reply is made)
look_made (Plan reclaim false) extra format device reply is made = absurd (planned_not_made reclaim format.units device reply is made)
look_made (Plan reclaim true) extra format device reply is made =
    absurd (planned_in_words_not_made format.form format.files reclaim format.units device reply is made)
look_made (Verify reclaim) extra format device reply is made =
    absurd (verified_not_made reclaim (given_bytes extra) format.units device reply is made)
