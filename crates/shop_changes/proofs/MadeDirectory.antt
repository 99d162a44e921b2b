-- What is told of an image on whose volume a directory is made, by what became of it.
use Rattle.std.proofs.Common.{◌≡◌, List, inl, inr, refl, subst, sym}
use Rattle.std.specs.Prelude.{◌⊎◌, ℕ, true, IfErr, OnOk, Result, Err, Ok}
use Rattle.a2_device.specs.Device.{DeviceState, OnlyReads}
use Rattle.vol_format.specs.Accepted.{IsVolume}
use Rattle.vol_format.specs.Meaning.{Meaning}
use Rattle.vol_laws.specs.Writes.{Write}
use Rattle.edit_formats.specs.Writes.{HasEdited, StopsIn}
use Rattle.edit_formats.specs.declared.error.EditError.{EditError}
use Rattle.edit_formats.specs.declared.error.EditError.TheVariants as refused
use Rattle.pro_dir.specs.declared.date.ProDate.{ProDate}
use Rattle.file_edits.specs.Directories.{DirectoryMeaning, IsDirectoryEdit}
use Rattle.file_edits.specs.Made.{IsMakingRefusal}
use Rattle.shop_replies.specs.declared.refusal.Refusal.TheVariants as refusals
use Rattle.shop_replies.specs.declared.reply.Reply.{Reply}
use Rattle.shop_replies.specs.Reply.{IsMadeReply, made_of}
use Rattle.shop_replies.specs.Volume.{LacksUnit}
use Rattle.shop_replies.proofs.Lacking.{unit_lacks}
use Rattle.shop_changes.specs.EditOutcome.{TellsEdit}
use Rattle.shop_changes.specs.MakingOutcome.{IsMakingOutcome}
use Rattle.shop_changes.specs.Refusals.{reply_to_edit_refusal}
use Rattle.shop_changes.specs.declared.outcome.Outcome.{Outcome}
use Rattle.shop_changes.specs.ChangeReply.{TellsOutcome}
use Rattle.shop_changes.specs.ImageBytes.{AreBytesOf}
use Rattle.shop_changes.specs.MakingReply.{IsDirectoryMade}
use Rattle.shop_changes.proofs.Edited.{stops_lack}
use Rattle.shop_volumes.proofs.Fresh.{IsFresh}
use Rattle.shop_changes.proofs.Optimized.{keeps_bytes}

-- on a device of which nothing can fail but what can't be read
module _ (old new : DeviceState) (fresh : IsFresh old) (path : List ℕ) (date : ProDate) (directories : DirectoryMeaning) (format : Meaning) where
  abbrev IsEdit : List Write → Type 0
  IsEdit writes = IsDirectoryEdit directories old.store path date writes

  abbrev IsReply : Reply → Type 0
  IsReply reply = IsDirectoryMade path date directories format old reply

  was_made : {T : Type 0} {t : T} (reply : Reply) → HasEdited IsEdit (Ok t) old new
      → directories.HasMade old.store path date new.store → IsMadeReply reply → AreBytesOf new (made_of reply) → IsReply reply
  was_made reply edited made image bytes =
      let done = edited.done fresh.honest in
      inl (record {
        writes = done.0;
        are_writes = done.1.0;
        has_made = subst (λ (d : DeviceState). directories.HasMade old.store path date d.store) done.2 made;
        image = image;
        made = subst (λ (d : DeviceState). AreBytesOf d (made_of reply)) done.2 bytes;
        kept = keeps_bytes old new _ edited.same.image bytes;
      })

  was_refused : {T : Type 0} (error : EditError) → IsMakingRefusal error → HasEdited {T = T} IsEdit (Err error) old new
      → (error ≡ refused.Check → ¬ IsVolume format old.store) → directories.IsTold old.store path date error → IsReply (reply_to_edit_refusal error)
  was_refused refused.Check is edited check cause = inr (inl (refusals.Check, refl, check refl))
  was_refused refused.NotFound is edited check cause = inr (inl (refusals.NotFound, refl, cause))
  was_refused refused.Name is edited check cause = inr (inl (refusals.Name, refl, cause))
  was_refused refused.Exists is edited check cause = inr (inl (refusals.Exists, refl, cause))
  was_refused refused.DirFull is edited check cause = inr (inl (refusals.DirFull, refl, cause))
  was_refused refused.VolumeFull is edited check cause = inr (inl (refusals.VolumeFull, refl, cause))
  was_refused refused.Device is edited check cause = inr (inr (inl (refl, lacks (edited.stopped fresh.honest refl))))
    where
      lacks : OnlyReads true old new ⊎ ((list : List Write) × IsEdit list × StopsIn list old new) → LacksUnit old
      lacks (inl read) = unit_lacks old new fresh.honest fresh.reads read
      lacks (inr stopped) = stops_lack old new fresh stopped.0 stopped.1.1 stopped.2
  was_refused refused.Memory is edited check cause = inr (inr (inr refl))
  was_refused refused.Locked is edited check cause = absurd is
  was_refused refused.TooLong is edited check cause = absurd is

  -- what was answered, and the outcome that tells it
  answered : (outcome : Outcome) (reply : Reply) → TellsOutcome new outcome reply → (result : Result (Unit {0}) EditError) → TellsEdit result outcome
      → HasEdited IsEdit result old new → IfErr result IsMakingRefusal → OnOk result (directories.HasMade old.store path date new.store)
      → (result ≡ Err refused.Check → ¬ IsVolume format old.store) → IfErr result (directories.IsTold old.store path date) → IsReply reply
  answered outcome reply tells (Ok done) told edited refusals made check caused =
      let image = subst (λ (o : Outcome). TellsOutcome new o reply) told tells in
      was_made reply edited made image.0 image.1
  answered outcome reply tells (Err error) told edited refusals made check caused =
      let same : reply ≡ reply_to_edit_refusal error = subst (λ (o : Outcome). TellsOutcome new o reply) told tells in
      subst IsReply (sym same) (was_refused error refusals edited (λ is. check (cc)) caused)

  pub directory_told : (outcome : Outcome) (reply : Reply) → IsMakingOutcome path date directories format old new outcome → TellsOutcome new outcome reply
      → IsReply reply
  directory_told outcome reply is tells =
      answered outcome reply tells is.result is.told is.edited is.refusals (is.made fresh.honest) (is.check fresh.honest) (is.caused fresh.honest)
