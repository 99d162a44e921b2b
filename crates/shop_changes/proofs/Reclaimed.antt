-- What is told of an image whose lost places are marked free, by what became of it.
use Rattle.std.proofs.Common.{◌≡◌, List, inl, inr, refl, subst, sym}
use Rattle.std.specs.Prelude.{◌⊎◌, true, IfErr, OnOk, Result, Err, Ok}
use Rattle.a2_device.specs.Device.{DeviceState, OnlyReads}
use Rattle.vol_format.specs.Accepted.{IsVolume}
use Rattle.vol_format.specs.Meaning.{Meaning}
use Rattle.vol_laws.specs.Writes.{Write}
use Rattle.edit_formats.specs.Writes.{HasEdited, StopsIn}
use Rattle.edit_formats.specs.declared.error.EditError.{EditError}
use Rattle.edit_formats.specs.declared.error.EditError.TheVariants as refused
use Rattle.file_edits.specs.Reclaimed.{HasReclaimed, IsReclaimEdit, IsReclaimRefusal}
use Rattle.shop_replies.specs.declared.reply.Reply.{Reply}
use Rattle.shop_replies.specs.Reply.{IsMadeReply, made_of}
use Rattle.shop_replies.specs.Volume.{LacksUnit}
use Rattle.shop_replies.proofs.Lacking.{unit_lacks}
use Rattle.shop_changes.specs.EditOutcome.{TellsEdit}
use Rattle.shop_changes.specs.ReclaimOutcome.{IsReclaimOutcome}
use Rattle.shop_changes.specs.Refusals.{reply_to_edit_refusal}
use Rattle.shop_changes.specs.declared.outcome.Outcome.{Outcome}
use Rattle.shop_changes.specs.ChangeReply.{TellsOutcome}
use Rattle.shop_changes.specs.ImageBytes.{AreBytesOf}
use Rattle.shop_changes.specs.ReclaimReply.{IsReclaimed}
use Rattle.shop_changes.proofs.Edited.{stops_lack}
use Rattle.shop_volumes.proofs.Fresh.{IsFresh}
use Rattle.shop_changes.proofs.Optimized.{keeps_bytes}

-- on a device of which nothing can fail but what can't be read
module _ (old new : DeviceState) (fresh : IsFresh old) (format : Meaning) where
  was_reclaimed : {T : Type 0} {t : T} (reply : Reply) → HasEdited (IsReclaimEdit format old.store) (Ok t) old new
      → HasReclaimed format old.store new.store → IsMadeReply reply → AreBytesOf new (made_of reply) → IsReclaimed format old reply
  was_reclaimed reply edited reclaimed image made =
      let done = edited.done fresh.honest in
      inl (record {
        writes = done.0;
        are_writes = done.1;
        reclaimed = subst (λ (d : DeviceState). HasReclaimed format old.store d.store) done.2 reclaimed;
        image = image;
        made = subst (λ (d : DeviceState). AreBytesOf d (made_of reply)) done.2 made;
        kept = keeps_bytes old new _ edited.same.image made;
      })

  was_refused : {T : Type 0} (error : EditError) → IsReclaimRefusal error → HasEdited {T = T} (IsReclaimEdit format old.store) (Err error) old new
      → (error ≡ refused.Check → ¬ IsVolume format old.store) → IsReclaimed format old (reply_to_edit_refusal error)
  was_refused refused.Check is edited cause = inr (inl (refl, cause refl))
  was_refused refused.Device is edited cause = inr (inr (inl (refl, lacks (edited.stopped fresh.honest refl))))
    where
      lacks : OnlyReads true old new ⊎ ((list : List Write) × IsReclaimEdit format old.store list × StopsIn list old new) → LacksUnit old
      lacks (inl read) = unit_lacks old new fresh.honest fresh.reads read
      lacks (inr stopped) = stops_lack old new fresh stopped.0 stopped.1.few stopped.2
  was_refused refused.Memory is edited cause = inr (inr (inr refl))
  was_refused refused.NotFound is edited cause = absurd is
  was_refused refused.Name is edited cause = absurd is
  was_refused refused.Exists is edited cause = absurd is
  was_refused refused.Locked is edited cause = absurd is
  was_refused refused.TooLong is edited cause = absurd is
  was_refused refused.DirFull is edited cause = absurd is
  was_refused refused.VolumeFull is edited cause = absurd is

  -- what was answered, and the outcome that tells it
  answered : (outcome : Outcome) (reply : Reply) → TellsOutcome new outcome reply → (result : Result (Unit {0}) EditError) → TellsEdit result outcome
      → HasEdited (IsReclaimEdit format old.store) result old new → IfErr result IsReclaimRefusal
      → OnOk result (HasReclaimed format old.store new.store) → (result ≡ Err refused.Check → ¬ IsVolume format old.store) → IsReclaimed format old reply
  answered outcome reply tells (Ok done) told edited refusals reclaimed caused =
      let image = subst (λ (o : Outcome). TellsOutcome new o reply) told tells in
      was_reclaimed reply edited reclaimed image.0 image.1
  answered outcome reply tells (Err error) told edited refusals reclaimed caused =
      let same : reply ≡ reply_to_edit_refusal error = subst (λ (o : Outcome). TellsOutcome new o reply) told tells in
      subst (λ (r : Reply). IsReclaimed format old r) (sym same) (was_refused error refusals edited (λ is. caused (cc)))

  pub reclaimed_told : (outcome : Outcome) (reply : Reply) → IsReclaimOutcome format old new outcome → TellsOutcome new outcome reply
      → IsReclaimed format old reply
  reclaimed_told outcome reply is tells =
      answered outcome reply tells is.result is.told is.edited is.refusals (is.reclaimed fresh.honest) (is.caused fresh.honest)
