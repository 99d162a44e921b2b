-- What is told of an image in which a file takes the place of another one, by what became of it.
use Rattle.std.proofs.Common.{◌≡◌, ℕ, inl, inr, List, subst}
use Rattle.std.specs.Prelude.{◌⊎◌, ◌≤◌, length, true}
use Rattle.a2_device.specs.Device.{DeviceState, OnlyReads}
use Rattle.vol_format.specs.Meaning.{Meaning}
use Rattle.vol_laws.specs.Writes.{Write}
use Rattle.edit_formats.specs.Deleted.{IsDeleteEdit}
use Rattle.edit_formats.specs.Writes.{StopsIn}
use Rattle.edit_formats.specs.declared.error.EditError.{EditError}
use Rattle.edit_formats.specs.declared.error.EditError.TheVariants as edits
use Rattle.file_formats.specs.FileNames.{GivenPath}
use Rattle.file_formats.specs.Files.{FileMeaning}
use Rattle.shop_changes.specs.EditRules.{ChangedMeaning, EditRules}
use Rattle.shop_changes.specs.GivenFile.{GivenView, most_input}
use Rattle.shop_changes.specs.GivenWords.{kind_unsaid}
use Rattle.shop_changes.specs.Refusals.{reply_to_edit_refusal}
use Rattle.shop_changes.specs.Replaced.{IsMadeWay, IsNoWay, IsNotCleared, IsPlainSaid}
use Rattle.shop_changes.specs.SaidFile.{SaidView}
use Rattle.shop_changes.specs.SaveOutcome.{IsSaveOutcome}
use Rattle.shop_changes.specs.declared.outcome.Outcome.{Outcome}
use Rattle.shop_replies.proofs.Lacking.{unit_lacks}
use Rattle.shop_replies.specs.Volume.{LacksUnit}
use Rattle.shop_replies.specs.declared.reply.Reply.{Reply}
use Rattle.shop_changes.specs.ChangeReply.{TellsOutcome}
use Rattle.shop_changes.specs.ReplaceReply.{IsPlainReplaced, IsReopened, IsReplaced}
use Rattle.shop_changes.proofs.Edited.{stops_lack}
use Rattle.shop_volumes.proofs.Fresh.{IsFresh}
use Rattle.shop_changes.proofs.Saved.{saved_told}

-- on a device of which nothing can fail but what can't be read
module _ (old : DeviceState) (fresh : IsFresh old) (path : List ℕ) (said : SaidView) (unsaid : ℕ) (files : FileMeaning) (rules : EditRules) (format : Meaning) where
  lacks : (new : DeviceState)
      → OnlyReads true old new ⊎ ((writes : List Write) × IsDeleteEdit format files rules.erase old.store (GivenPath path) writes × StopsIn writes old new)
      → LacksUnit old
  lacks new (inl read) = unit_lacks old new fresh.honest fresh.reads read
  lacks new (inr stopped) = stops_lack old new fresh stopped.0 stopped.1.few stopped.2

  -- the old file is not deleted
  pub no_way : (new : DeviceState) (reply : Reply) → IsNoWay path said files rules format old new reply
      → IsPlainReplaced path said unsaid files rules format old reply
  no_way new reply (inl long) = inl (long.0, long.1)
  no_way new reply (inr (fits, (error, told, cause))) = by_error error told cause where
    by_error : (error : EditError) → reply ≡ reply_to_edit_refusal error → IsNotCleared error path files rules format old new
        → IsPlainReplaced path said unsaid files rules format old reply
    by_error edits.Check told cause = inr (fits, inl (told, cause.0))
    by_error edits.Locked told cause = inr (fits, inr (inl (told, cause.0)))
    by_error edits.Device told cause = inr (fits, inr (inr (inl (told, lacks new cause))))
    by_error edits.Memory told cause = inr (fits, inr (inr (inr (inl told))))
    by_error edits.NotFound told cause = absurd cause
    by_error edits.Name told cause = absurd cause
    by_error edits.Exists told cause = absurd cause
    by_error edits.TooLong told cause = absurd cause
    by_error edits.DirFull told cause = absurd cause
    by_error edits.VolumeFull told cause = absurd cause

  -- it is, and the new one is saved or not
  pub saved_over : (without : DeviceState) (given : GivenView) → IsMadeWay path said unsaid files rules format old without given
      → (reopened new : DeviceState) → IsReopened without reopened → IsFresh reopened
      → (outcome : Outcome) (reply : Reply) → IsSaveOutcome path given rules.save format reopened new outcome → TellsOutcome new outcome reply
      → IsPlainReplaced path said unsaid files rules format old reply
  saved_over without given way reopened new same opened outcome reply is tells = inr (
    way.fits,
    inr (inr (inr (inr (record {
      without = without;
      given = given;
      way = way;
      reopened = reopened;
      same = same;
      saved = saved_told reopened new opened path given rules.save format outcome reply is tells;
    })))),
  )

-- a file that was taken from the form in which it is said
pub replaced_so : (path : List ℕ) (said : SaidView) (format : ChangedMeaning) (device : DeviceState) (reply : Reply) (plain : SaidView) (unsaid : ℕ)
    → length said.bytes ≤ most_input → unsaid ≡ kind_unsaid said.file_system said.form → IsPlainSaid said said.form plain
    → IsPlainReplaced path plain unsaid format.files format.edits format.units device reply → IsReplaced path said format device reply
replaced_so path said format device reply plain unsaid short is_unsaid is told = inr (
  short,
  inr (plain, is, subst (λ (n : ℕ). IsPlainReplaced path plain n format.files format.edits format.units device reply) is_unsaid told),
)
