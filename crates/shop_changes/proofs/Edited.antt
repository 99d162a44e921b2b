-- What is told of an edit, by what became of it.
use Rattle.std.proofs.Common.{◌≡◌, ◌∙◌, ℕ, ◌+◌, List, [], ◌∷◌, inl, inr, refl, subst, sym, ap, arith, length, length-take, Some, None, Contains}
use Rattle.std.specs.Prelude.{◌⊎◌, ◌<◌, true, IfErr, IfSome, OnOk, Result, Err, Ok, take, slice_index_or}
use Rattle.a2_device.specs.Device.{DeviceState, FailsWrite, OnlyReads, UsesWrite, last_count, one_fewer, written}
use Rattle.vol_format.specs.Meaning.{Meaning}
use Rattle.file_formats.specs.FileNames.{FileNameView}
use Rattle.file_formats.specs.Files.{FileMeaning}
use Rattle.edit_formats.specs.Edited.{HasChanged}
use Rattle.edit_formats.specs.Renamed.{IsRenameRefusal}
use Rattle.vol_laws.specs.Writes.{Write}
use Rattle.edit_formats.specs.Writes.{HasEdited, RefusesWrite, StopsIn, device_after, no_write}
use Rattle.edit_formats.specs.declared.error.EditError.{EditError}
use Rattle.edit_formats.specs.declared.error.EditError.TheVariants as refused
use Rattle.shop_jobs.specs.Job.{EditView, Lock, Unlock, Delete, Rename}
use Rattle.shop_replies.specs.declared.refusal.Refusal.{Refusal}
use Rattle.shop_replies.specs.declared.refusal.Refusal.TheVariants as refusals
use Rattle.shop_replies.specs.declared.reply.Reply.{Reply}
use Rattle.shop_replies.specs.Reply.{IsMadeReply, made_of}
use Rattle.shop_replies.specs.Volume.{LacksUnit}
use Rattle.shop_replies.proofs.Lacking.{unit_lacks}
use Rattle.shop_changes.specs.EditOutcome.{IsEditOutcome, TellsEdit}
use Rattle.shop_changes.specs.EditRules.{EditRules}
use Rattle.shop_changes.specs.Edits.{AreWritesOf, IsCause, edited_files}
use Rattle.shop_changes.specs.Refusals.{refusal_of_edit, reply_to_edit_refusal}
use Rattle.shop_changes.specs.declared.outcome.Outcome.{Outcome}
use Rattle.shop_changes.specs.ChangeReply.{TellsOutcome}
use Rattle.shop_changes.specs.EditReply.{IsEdited}
use Rattle.shop_changes.specs.ImageBytes.{AreBytesOf}
use Rattle.shop_volumes.proofs.Fresh.{IsFresh}
use Rattle.shop_changes.proofs.Optimized.{keeps_bytes}

-- an edit has fewer writes than a device can count
few_writes : (edit : EditView) (name : FileNameView) (files : FileMeaning) (rules : EditRules) (format : Meaning) (store : List (List ℕ)) (writes : List Write)
    → AreWritesOf edit name files rules format store writes → length writes < last_count + 1
few_writes Lock name files rules format store writes is = let one = ap (λ (w : List Write). length w) is.are in omega (arith, one)
few_writes Unlock name files rules format store writes is = let one = ap (λ (w : List Write). length w) is.are in omega (arith, one)
few_writes Delete name files rules format store writes is = is.few
few_writes (Rename new) name files rules format store writes is = let one = ap (λ (w : List Write). length w) is.are in omega (arith, one)

-- on a device of which nothing can fail but what can't be read
module _ (old new : DeviceState) (fresh : IsFresh old) where
  -- it is so after writes that stand, and has counted each
  record HasWritten (made : ℕ) (device : DeviceState) : Type 0 where
    unreadable : device.unreadable ≡ old.unreadable
    failures : device.write_failures ≡ Some []
    unbounded : device.passes ≡ None
    counted : device.writes ≡ made

  all_written : (list : List Write) (made : ℕ) (device : DeviceState) → HasWritten made device → HasWritten (made + length list) (device_after list device)
  all_written [] made device has = subst (λ (n : ℕ). HasWritten n device) (omega arith) has
  all_written (write ∷ list) made device has =
      subst (λ (n : ℕ). HasWritten n (device_after list (written write.place write.unit device))) (omega arith)
      (all_written list (made + 1) (written write.place write.unit device) (record {
        unreadable = has.unreadable;
        failures = has.failures;
        unbounded = ap one_fewer has.unbounded;
        counted = ap (λ (n : ℕ). n + 1) has.counted;
      }))

  write_fails : (write : Write) (made : ℕ) (device : DeviceState) → HasWritten made device → FailsWrite write.place write.unit device new → LacksUnit old
  write_fails write made device has fails = elim fails [
    | inl met ↦ let used = subst (λ failures. UsesWrite failures met.0 new.write_failures) has.failures met.1 in absurd_cons used.1
    | inr closed ↦ elim closed.0 [
      | inl lacks ↦ (write.place, subst (λ (places : List ℕ). Contains places write.place) has.unreadable lacks)
      | inr none ↦ let bound = sym has.unbounded ∙ none in cc
    ]
  ]
    where
      absurd_cons : {X : Type 0} {x : X} {xs : List X} {P : Type 0} → [] ≡ x ∷ xs → P
      absurd_cons is = cc

  write_refused : (write : Write) (made : ℕ) (device : DeviceState) → HasWritten made device → made < last_count → RefusesWrite write device new → LacksUnit old
  write_refused write made device has below refuses = elim refuses [
    | inl spent ↦ let full = sym has.counted ∙ spent.0 in absurd (omega (arith, full, below))
    | inr fails ↦ write_fails write made device has fails
  ]

  pub stops_lack : (list : List Write) → length list < last_count + 1 → StopsIn list old new → LacksUnit old
  stops_lack list few stops =
      let front = take stops.made list in
      let long = length-take stops.made list in
      let below = stops.below in
      write_refused (slice_index_or list stops.made no_write) (0 + length front) (device_after front old)
      (all_written front 0 old (record { unreadable = refl; failures = fresh.writes; unbounded = fresh.passes; counted = fresh.room })) (omega (arith, long, below, few)) stops.refused

  module _ (edit : EditView) (name : FileNameView) (files : FileMeaning) (rules : EditRules) (format : Meaning) where
    -- what is told of an error, but for a failure, has its cause
    abbrev pub HasCause : EditError → Type 0
    HasCause error = IfSome (refusal_of_edit error) (λ (refusal : Refusal). IsCause refusal edit name files rules format old.store)

    was_edited : {T : Type 0} {t : T} (reply : Reply) → HasEdited (AreWritesOf edit name files rules format old.store) (Ok t) old new
        → HasChanged format (edited_files edit name files rules) old.store new.store → IsMadeReply reply → AreBytesOf new (made_of reply)
        → IsEdited edit name files rules format old reply
    was_edited reply edited changed image made =
        let done = edited.done fresh.honest in
        inl (record {
          writes = done.0;
          are_writes = done.1;
          changed = subst (λ (d : DeviceState). HasChanged format (edited_files edit name files rules) old.store d.store) done.2 changed;
          image = image;
          made = subst (λ (d : DeviceState). AreBytesOf d (made_of reply)) done.2 made;
          kept = keeps_bytes old new _ edited.same.image made;
        })

    was_refused : {T : Type 0} (error : EditError) → IsRenameRefusal error → HasEdited {T = T} (AreWritesOf edit name files rules format old.store) (Err error) old new
        → HasCause error → IsEdited edit name files rules format old (reply_to_edit_refusal error)
    was_refused refused.Check is edited cause = inr (inl (refusals.Check, refl, cause))
    was_refused refused.NotFound is edited cause = inr (inl (refusals.NotFound, refl, cause))
    was_refused refused.Name is edited cause = inr (inl (refusals.Name, refl, cause))
    was_refused refused.Exists is edited cause = inr (inl (refusals.Exists, refl, cause))
    was_refused refused.Locked is edited cause = inr (inl (refusals.Locked, refl, cause))
    was_refused refused.Device is edited cause = inr (inr (inl (refl, lacks (edited.stopped fresh.honest refl))))
      where
        lacks : OnlyReads true old new ⊎ ((list : List Write) × AreWritesOf edit name files rules format old.store list × StopsIn list old new) → LacksUnit old
        lacks (inl read) = unit_lacks old new fresh.honest fresh.reads read
        lacks (inr stopped) = stops_lack stopped.0 (few_writes edit name files rules format old.store stopped.0 stopped.1) stopped.2
    was_refused refused.Memory is edited cause = inr (inr (inr refl))
    was_refused refused.TooLong is edited cause = absurd is
    was_refused refused.DirFull is edited cause = absurd is
    was_refused refused.VolumeFull is edited cause = absurd is

    was_told : {T : Type 0} (error : EditError) → IsRenameRefusal error → HasEdited {T = T} (AreWritesOf edit name files rules format old.store) (Err error) old new
        → HasCause error → (reply : Reply) → reply ≡ reply_to_edit_refusal error → IsEdited edit name files rules format old reply
    was_told error is edited cause reply told =
        subst (λ (r : Reply). IsEdited edit name files rules format old r) (sym told) (was_refused error is edited cause)

    -- what the command answered, and the outcome that tells it
    answered : (outcome : Outcome) (reply : Reply) → TellsOutcome new outcome reply → (result : Result (Unit {0}) EditError) → TellsEdit result outcome
        → HasEdited (AreWritesOf edit name files rules format old.store) result old new → IfErr result IsRenameRefusal
        → OnOk result (HasChanged format (edited_files edit name files rules) old.store new.store) → IfErr result HasCause
        → IsEdited edit name files rules format old reply
    answered outcome reply tells (Ok done) told edited refusals changed caused =
        let image = subst (λ (o : Outcome). TellsOutcome new o reply) told tells in
        was_edited reply edited changed image.0 image.1
    answered outcome reply tells (Err error) told edited refusals changed caused =
        was_told error refusals edited caused reply (subst (λ (o : Outcome). TellsOutcome new o reply) told tells)

    pub edited_told : (outcome : Outcome) (reply : Reply) → IsEditOutcome edit name files rules format old new outcome → TellsOutcome new outcome reply
        → IsEdited edit name files rules format old reply
    edited_told outcome reply is tells =
        answered outcome reply tells is.result is.told is.edited is.refusals (is.changed fresh.honest) (is.caused fresh.honest)
