-- What becomes of a device to which one new file is saved.
use Rattle.std.proofs.Common.{◌≡◌, ◌≢◌, ◌∙◌, ℕ, refl, sym, ap, inl, inr, List}
use Rattle.std.specs.Prelude.{◌⊎◌, ◌≤◌, IsTrue, Option, Some, None, Result, Ok, Err, length, if◌then◌else◌}
use Rattle.a2_device.specs.Device.{DeviceState, IsSameDevice, counted}
use Rattle.edit_formats.specs.Refusal.{told_device}
use Rattle.edit_formats.specs.declared.error.EditError.{EditError}
use Rattle.edit_formats.specs.declared.error.EditError.TheVariants as edits
use Rattle.file_forms.specs.declared.form.GivenForm.{GivenForm}
use Rattle.folder_adding.specs.Refused.{CountsFailure}
use Rattle.edit_formats.specs.Saves.{SaveMeaning}
use Rattle.shop_changes.specs.EditOutcome.{TellsEdit}
use Rattle.shop_changes.specs.GivenFile.{GivenView, most_input}
use Rattle.shop_changes.specs.SaidFile.{Gives, IsNotGivenBy, IsSaidOutcome, SaidView, TellsBadLine}
use Rattle.shop_changes.specs.SaveOutcome.{IsSaveOutcome, IsSaveTriedOutcome}
use Rattle.shop_changes.specs.declared.outcome.Outcome.{Outcome}
use Rattle.shop_changes.specs.declared.outcome.Outcome.TheVariants.{Changed, Unfinished}
use Rattle.shop_replies.specs.declared.refusal.Failure.TheVariants as failures
use Rattle.shop_replies.specs.declared.refusal.Refusal.{Refusal}
use Rattle.shop_replies.specs.declared.refusal.Refusal.TheVariants as refusals
use Rattle.shop_replies.specs.declared.reply.Reply.{Reply}
use Rattle.shop_replies.specs.declared.reply.Told.TheVariants as Told
use Rattle.shop_replies.specs.declared.reply.Status.TheVariants.{Refused, Failed}
use Rattle.shop_replies.specs.Reply.{failed, refused}
use Rattle.vol_format.specs.Meaning.{Meaning}

same_reply : (a b : Reply) → Unfinished a ≡ Unfinished b → a ≡ b
same_reply a b is = cc

-- no failure of the device is told, and the device is as it was
pub record IsQuiet (old new : DeviceState) (outcome : Outcome) : Type 0 where
  pub reply : Reply
  pub told : outcome ≡ Unfinished reply
  pub quiet : reply ≢ failed failures.Device
  pub kept : new ≡ old

-- what is said gives a file, and its saving was tried
pub record IsTried (path : List ℕ) (said : SaidView) (saves : SaveMeaning) (format : Meaning) (old new : DeviceState) (outcome : Outcome) : Type 0 where
  pub short : length said.bytes ≤ most_input
  pub given : GivenView
  pub gives : Gives said given
  pub tried : IsSaveTriedOutcome path given saves format old new outcome

pub refused_quiet : (refusal : Refusal) (reply : Reply) → reply ≡ refused refusal → reply ≢ failed failures.Device
refused_quiet refusal reply is told = let e : Refused ≡ Failed = ap (λ (r : Reply). r.status) (sym is ∙ told) in cc

pub memory_quiet : (reply : Reply) → reply ≡ failed failures.Memory → reply ≢ failed failures.Device
memory_quiet reply is told = let e : Told.Failure failures.Memory ≡ Told.Failure failures.Device = ap (λ (r : Reply). r.told) (sym is ∙ told) in cc

line_quiet : (line : ℕ) (reply : Reply) → TellsBadLine line reply → reply ≢ failed failures.Device
line_quiet line reply tells = elim tells [
  | inl text ↦ λ told. let e : Refused ≡ Failed = sym text.0.0 ∙ ap (λ (r : Reply). r.status) told in cc
  | inr memory ↦ memory_quiet reply memory
]

none_quiet : (said : SaidView) (form : Option GivenForm) (reply : Reply) → IsNotGivenBy said form reply → reply ≢ failed failures.Device
none_quiet said None reply none = absurd none
none_quiet said (Some form) reply none = elim none [
  | inl bad ↦ line_quiet bad.line reply bad.told
  | inr (inl single) ↦ refused_quiet refusals.Single reply single.0
  | inr (inr (inl kind)) ↦ refused_quiet refusals.Type reply kind.0
  | inr (inr (inr memory)) ↦ memory_quiet reply memory
]

module _ (path : List ℕ) (said : SaidView) (saves : SaveMeaning) (format : Meaning) (old new : DeviceState) (outcome : Outcome) where
  save_weighed : (given : GivenView) → length said.bytes ≤ most_input → Gives said given → IsSaveOutcome path given saves format old new outcome
      → IsQuiet old new outcome ⊎ IsTried path said saves format old new outcome
  save_weighed given short gives is = elim is [
    | inl long ↦ inl (record { reply = refused refusals.InputTooLong; told = long.0; quiet = refused_quiet refusals.InputTooLong _ refl; kept = long.2 })
    | inr (inl long) ↦ inl (record { reply = refused refusals.TooLong; told = long.0; quiet = refused_quiet refusals.TooLong _ refl; kept = long.3 })
    | inr (inr (inl memory)) ↦ inl (record { reply = failed failures.Memory; told = memory.0; quiet = memory_quiet _ refl; kept = memory.3 })
    | inr (inr (inr tried)) ↦ inr (record { short = short; given = given; gives = gives; tried = tried.2 })
  ]

  pub weighed : IsSaidOutcome path said saves format old new outcome → IsQuiet old new outcome ⊎ IsTried path said saves format old new outcome
  weighed is = elim is [
    | inl long ↦ inl (record { reply = refused refusals.InputTooLong; told = long.0; quiet = refused_quiet refusals.InputTooLong _ refl; kept = long.2 })
    | inr (inl none) ↦ inl (record { reply = none.1.0; told = none.1.1; quiet = none_quiet said said.form none.1.0 none.1.2; kept = none.1.3 })
    | inr (inr given) ↦ save_weighed given.1.0 given.0 given.1.1 given.1.2
  ]

-- ---- what an edit tells

pub tells_changed : (result : Result (Unit {0}) EditError) → TellsEdit result Changed → result ≡ Ok tt
tells_changed (Ok done) tells = refl
tells_changed (Err error) tells = absurd (cc)

never_optimized : (result : Result (Unit {0}) EditError) (outcome : Outcome) → TellsEdit result outcome → (outcome ≡ Changed) ⊎ ((reply : Reply) × (outcome ≡ Unfinished reply))
never_optimized (Ok done) outcome tells = inl tells
never_optimized (Err error) outcome tells = inr (_, tells)

module _ (old new : DeviceState) (reply : Reply) where
  tells_count : (result : Result (Unit {0}) EditError) → TellsEdit result (Unfinished reply) → new.faults ≡ (if told_device result then counted old.faults else old.faults)
      → CountsFailure reply old new
  tells_count (Ok done) tells faults = absurd (let e : Unfinished reply ≡ Changed = tells in cc)
  tells_count (Err edits.Device) tells faults = inl (same_reply _ _ tells, faults)
  tells_count (Err edits.Check) tells faults = inr (refused_quiet refusals.Check reply (same_reply _ _ tells), faults)
  tells_count (Err edits.NotFound) tells faults = inr (refused_quiet refusals.NotFound reply (same_reply _ _ tells), faults)
  tells_count (Err edits.Name) tells faults = inr (refused_quiet refusals.Name reply (same_reply _ _ tells), faults)
  tells_count (Err edits.Exists) tells faults = inr (refused_quiet refusals.Exists reply (same_reply _ _ tells), faults)
  tells_count (Err edits.Locked) tells faults = inr (refused_quiet refusals.Locked reply (same_reply _ _ tells), faults)
  tells_count (Err edits.TooLong) tells faults = inr (refused_quiet refusals.TooLong reply (same_reply _ _ tells), faults)
  tells_count (Err edits.DirFull) tells faults = inr (refused_quiet refusals.DirFull reply (same_reply _ _ tells), faults)
  tells_count (Err edits.VolumeFull) tells faults = inr (refused_quiet refusals.VolumeFull reply (same_reply _ _ tells), faults)
  tells_count (Err edits.Memory) tells faults = inr (memory_quiet reply (same_reply _ _ tells), faults)

  tells_kept : (result : Result (Unit {0}) EditError) → TellsEdit result (Unfinished reply) → ((error : EditError) → result ≡ Err error → error ≢ edits.Device → new ≡ old)
      → reply ≢ failed failures.Device → new ≡ old
  tells_kept (Ok done) tells kept quiet = absurd (let e : Unfinished reply ≡ Changed = tells in cc)
  tells_kept (Err edits.Device) tells kept quiet = absurd (quiet (same_reply _ _ tells))
  tells_kept (Err edits.Check) tells kept quiet = kept edits.Check refl (λ is. cc)
  tells_kept (Err edits.NotFound) tells kept quiet = kept edits.NotFound refl (λ is. cc)
  tells_kept (Err edits.Name) tells kept quiet = kept edits.Name refl (λ is. cc)
  tells_kept (Err edits.Exists) tells kept quiet = kept edits.Exists refl (λ is. cc)
  tells_kept (Err edits.Locked) tells kept quiet = kept edits.Locked refl (λ is. cc)
  tells_kept (Err edits.TooLong) tells kept quiet = kept edits.TooLong refl (λ is. cc)
  tells_kept (Err edits.DirFull) tells kept quiet = kept edits.DirFull refl (λ is. cc)
  tells_kept (Err edits.VolumeFull) tells kept quiet = kept edits.VolumeFull refl (λ is. cc)
  tells_kept (Err edits.Memory) tells kept quiet = kept edits.Memory refl (λ is. cc)

-- ---- what a saving leaves

pub same_device : (old new : DeviceState) → new ≡ old → IsSameDevice old new
same_device old new kept = record {
  places = ap (λ (d : DeviceState). d.places) kept;
  unit_size = ap (λ (d : DeviceState). d.unit_size) kept;
  image = ap (λ (d : DeviceState). d.image) kept;
  honest = ap (λ (d : DeviceState). d.honest) kept;
  unreadable = ap (λ (d : DeviceState). d.unreadable) kept;
}

module _ (path : List ℕ) (said : SaidView) (saves : SaveMeaning) (format : Meaning) (old new : DeviceState) where
  pub said_same : (outcome : Outcome) → IsSaidOutcome path said saves format old new outcome → IsSameDevice old new
  said_same outcome is = elim (weighed path said saves format old new outcome is) [
    | inl quiet ↦ same_device old new quiet.kept
    | inr tried ↦ tried.tried.edited.same
  ]

  pub said_tells : (outcome : Outcome) → IsSaidOutcome path said saves format old new outcome → (outcome ≡ Changed) ⊎ ((reply : Reply) × (outcome ≡ Unfinished reply))
  said_tells outcome is = elim (weighed path said saves format old new outcome is) [
    | inl quiet ↦ inr (quiet.reply, quiet.told)
    | inr tried ↦ never_optimized tried.tried.result outcome tried.tried.told
  ]

  pub said_saved : IsSaidOutcome path said saves format old new Changed → IsTried path said saves format old new Changed
  said_saved is = elim (weighed path said saves format old new Changed is) [
    | inl quiet ↦ absurd (let e : Changed ≡ Unfinished quiet.reply = quiet.told in cc)
    | inr tried ↦ tried
  ]

  pub said_quiet : IsSaidOutcome path said saves format old new Changed → new.faults ≡ old.faults
  said_quiet is =
      let tried = (said_saved is).tried in
      tried.edited.faults ∙ ap (λ (result : Result (Unit {0}) EditError). if told_device result then counted old.faults else old.faults) (tells_changed tried.result tried.told)

  pub said_counts : (reply : Reply) → IsSaidOutcome path said saves format old new (Unfinished reply) → CountsFailure reply old new
  said_counts reply is = elim (weighed path said saves format old new (Unfinished reply) is) [
    | inl quiet ↦ inr ((λ device. quiet.quiet (sym (same_reply reply quiet.reply quiet.told) ∙ device)), ap (λ (d : DeviceState). d.faults) quiet.kept)
    | inr tried ↦ tells_count old new reply tried.tried.result tried.tried.told tried.tried.edited.faults
  ]

  pub said_kept : (reply : Reply) → IsSaidOutcome path said saves format old new (Unfinished reply) → IsTrue old.honest → reply ≢ failed failures.Device → new ≡ old
  said_kept reply is honest not_device = elim (weighed path said saves format old new (Unfinished reply) is) [
    | inl quiet ↦ quiet.kept
    | inr tried ↦ tells_kept old new reply tried.tried.result tried.tried.told (tried.tried.edited.refused honest) not_device
  ]
