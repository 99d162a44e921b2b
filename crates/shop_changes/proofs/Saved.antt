-- What is told of a file that is saved, by what became of it.
use Rattle.std.proofs.Common.{◌≡◌, List, inl, inr, refl, subst, sym}
use Rattle.std.specs.Prelude.{◌⊎◌, ℕ, true, IfErr, IfSome, OnOk, Result, Err, Ok}
use Rattle.a2_device.specs.Device.{DeviceState, OnlyReads}
use Rattle.vol_format.specs.Meaning.{Meaning}
use Rattle.vol_laws.specs.Writes.{Write}
use Rattle.edit_formats.specs.Writes.{HasEdited, StopsIn}
use Rattle.edit_formats.specs.declared.error.EditError.{EditError}
use Rattle.edit_formats.specs.declared.error.EditError.TheVariants as refused
use Rattle.file_edits.specs.Saved.{IsSaveRefusal}
use Rattle.edit_formats.specs.Saves.{SaveMeaning}
use Rattle.shop_changes.specs.GivenFile.{GivenView}
use Rattle.shop_replies.specs.declared.refusal.Refusal.{Refusal}
use Rattle.shop_replies.specs.declared.refusal.Refusal.TheVariants as refusals
use Rattle.shop_replies.specs.declared.reply.Reply.{Reply}
use Rattle.shop_replies.specs.Reply.{IsMadeReply, made_of}
use Rattle.shop_replies.specs.Volume.{LacksUnit}
use Rattle.shop_replies.proofs.Lacking.{unit_lacks}
use Rattle.shop_changes.specs.EditOutcome.{TellsEdit}
use Rattle.shop_changes.specs.Refusals.{refusal_of_edit, reply_to_edit_refusal}
use Rattle.shop_changes.specs.SaidFile.{GivesNone, IsSaidOutcome, SaidView}
use Rattle.shop_changes.specs.SaveOutcome.{IsSaveOutcome, IsSaveTriedOutcome}
use Rattle.shop_changes.specs.Saves.{AreSaveWrites, HasGivenSaved, IsSaveCause}
use Rattle.shop_changes.specs.declared.outcome.Outcome.{Outcome}
use Rattle.shop_changes.specs.ChangeReply.{TellsOutcome}
use Rattle.shop_changes.specs.ImageBytes.{AreBytesOf}
use Rattle.shop_changes.specs.SaveReply.{IsSaidSaved, IsSaveTried, IsSaved}
use Rattle.shop_changes.proofs.Edited.{stops_lack}
use Rattle.shop_volumes.proofs.Fresh.{IsFresh}
use Rattle.shop_changes.proofs.Optimized.{keeps_bytes}

-- on a device of which nothing can fail but what can't be read
module _ (old new : DeviceState) (fresh : IsFresh old) (path : List ℕ) (given : GivenView) (saves : SaveMeaning) (format : Meaning) where
  -- what is told of an error, but for a failure, has its cause
  abbrev pub HasCause : EditError → Type 0
  HasCause error = IfSome (refusal_of_edit error) (λ (refusal : Refusal). IsSaveCause refusal path given saves format old.store)

  was_saved : {T : Type 0} {t : T} (reply : Reply) → HasEdited (AreSaveWrites path given saves format old.store) (Ok t) old new
      → HasGivenSaved path given saves format old.store new.store → IsMadeReply reply → AreBytesOf new (made_of reply) → IsSaveTried path given saves format old reply
  was_saved reply edited saved image made =
      let done = edited.done fresh.honest in
      inl (record {
        writes = done.0;
        are_writes = done.1;
        saved = subst (λ (d : DeviceState). HasGivenSaved path given saves format old.store d.store) done.2 saved;
        image = image;
        made = subst (λ (d : DeviceState). AreBytesOf d (made_of reply)) done.2 made;
        kept = keeps_bytes old new _ edited.same.image made;
      })

  was_refused : {T : Type 0} (error : EditError) → IsSaveRefusal error → HasEdited {T = T} (AreSaveWrites path given saves format old.store) (Err error) old new
      → HasCause error → IsSaveTried path given saves format old (reply_to_edit_refusal error)
  was_refused refused.Check is edited cause = inr (inl (refusals.Check, refl, cause))
  was_refused refused.NotFound is edited cause = inr (inl (refusals.NotFound, refl, cause))
  was_refused refused.Name is edited cause = inr (inl (refusals.Name, refl, cause))
  was_refused refused.Exists is edited cause = inr (inl (refusals.Exists, refl, cause))
  was_refused refused.Locked is edited cause = absurd is
  was_refused refused.TooLong is edited cause = inr (inl (refusals.TooLong, refl, cause))
  was_refused refused.DirFull is edited cause = inr (inl (refusals.DirFull, refl, cause))
  was_refused refused.VolumeFull is edited cause = inr (inl (refusals.VolumeFull, refl, cause))
  was_refused refused.Device is edited cause = inr (inr (inl (refl, lacks (edited.stopped fresh.honest refl))))
    where
      lacks : OnlyReads true old new ⊎ ((list : List Write) × AreSaveWrites path given saves format old.store list × StopsIn list old new) → LacksUnit old
      lacks (inl read) = unit_lacks old new fresh.honest fresh.reads read
      lacks (inr stopped) = stops_lack old new fresh stopped.0 stopped.1.few stopped.2
  was_refused refused.Memory is edited cause = inr (inr (inr refl))

  was_told : {T : Type 0} (error : EditError) → IsSaveRefusal error → HasEdited {T = T} (AreSaveWrites path given saves format old.store) (Err error) old new
      → HasCause error → (reply : Reply) → reply ≡ reply_to_edit_refusal error → IsSaveTried path given saves format old reply
  was_told error is edited cause reply told =
      subst (λ (r : Reply). IsSaveTried path given saves format old r) (sym told) (was_refused error is edited cause)

  answered : (outcome : Outcome) (reply : Reply) → TellsOutcome new outcome reply → (result : Result (Unit {0}) EditError) → TellsEdit result outcome
      → HasEdited (AreSaveWrites path given saves format old.store) result old new → IfErr result IsSaveRefusal
      → OnOk result (HasGivenSaved path given saves format old.store new.store) → IfErr result HasCause → IsSaveTried path given saves format old reply
  answered outcome reply tells (Ok done) told edited refusals saved caused =
      let image = subst (λ (o : Outcome). TellsOutcome new o reply) told tells in
      was_saved reply edited saved image.0 image.1
  answered outcome reply tells (Err error) told edited refusals saved caused =
      was_told error refusals edited caused reply (subst (λ (o : Outcome). TellsOutcome new o reply) told tells)

  tried : (outcome : Outcome) (reply : Reply) → TellsOutcome new outcome reply → IsSaveTriedOutcome path given saves format old new outcome
      → IsSaveTried path given saves format old reply
  tried outcome reply tells is =
      answered outcome reply tells is.result is.told is.edited is.refusals (is.saved fresh.honest) (is.caused fresh.honest)

  pub saved_told : (outcome : Outcome) (reply : Reply) → IsSaveOutcome path given saves format old new outcome → TellsOutcome new outcome reply
      → IsSaved path given saves format old reply
  saved_told outcome reply is tells = elim is [
    | inl long ↦ inl (subst (λ (o : Outcome). TellsOutcome new o reply) long.0 tells, long.1)
    | inr (inl long) ↦ inr (long.1, inl (subst (λ (o : Outcome). TellsOutcome new o reply) long.0 tells, long.2))
    | inr (inr (inl memory)) ↦ inr (memory.1, inr (memory.2, inr (inr (inr (subst (λ (o : Outcome). TellsOutcome new o reply) memory.0 tells)))))
    | inr (inr (inr saving)) ↦ inr (saving.0, inr (saving.1, tried outcome reply tells saving.2))
  ]

-- on such a device, of a file as words and bytes say it
module _ (old new : DeviceState) (fresh : IsFresh old) (path : List ℕ) (said : SaidView) (saves : SaveMeaning) (format : Meaning) where
  pub said_told : (outcome : Outcome) (reply : Reply) → IsSaidOutcome path said saves format old new outcome → TellsOutcome new outcome reply
      → IsSaidSaved path said saves format old reply
  said_told outcome reply is tells = elim is [
    | inl long ↦ inl (subst (λ (o : Outcome). TellsOutcome new o reply) long.0 tells, long.1)
    | inr (inl none) ↦ inr (
      none.0,
      inl (subst (λ (r : Reply). GivesNone said r)
          (sym (subst (λ (o : Outcome). TellsOutcome new o reply) none.1.1 tells)) none.1.2),
    )
    | inr (inr given) ↦ inr (given.0, inr (given.1.0, given.1.1, saved_told old new fresh path given.1.0 saves format outcome reply given.1.2 tells))
  ]
