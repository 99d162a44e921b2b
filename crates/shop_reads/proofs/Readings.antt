-- What is told of a listing and of a read that are refused.
use Rattle.std.proofs.Common.{◌≡◌, ◌≢◌, ℕ, Bool, List, inl, inr, refl, subst, sym}
use Rattle.std.specs.Prelude.{Option, Result, Ok, Some, None, true, false, Err, IsTrue}
use Rattle.a2_device.specs.Device.{DeviceState, OnlyReads}
use Rattle.a2_device.specs.Reading.{unread}
use Rattle.vol_layout.specs.declared.form.PlaceForm.{PlaceForm}
use Rattle.vol_format.specs.Meaning.{Meaning}
use Rattle.file_formats.specs.FileNames.{FileNameView}
use Rattle.file_formats.specs.Files.{FileMeaning}
use Rattle.file_formats.specs.Listing.{HasHeaderFault}
use Rattle.file_cmds.specs.ReadingOn.{FailedBetween}
use Rattle.file_cmds.specs.Refusal.{told_device}
use Rattle.file_cmds.specs.lemmas.Reading.{none_read, one_failed}
use Rattle.shop_replies.specs.declared.reply.Reply.{Reply}
use Rattle.file_listings.specs.DosText.{Text}
use Rattle.shop_jobs.specs.declared.input.FileSystem.{FileSystem}
use Rattle.shop_replies.specs.Volume.{form_of}
use Rattle.vol_layout.specs.declared.reserve_error.ReserveError.{ReserveError}
use Rattle.vol_layout.specs.declared.reserve_error.ReserveError.TheVariants as reserves
use Rattle.shop_volumes.specs.Reserving.{IsDeviceReply, NamesPlaces, reply_to_reserve}
use Rattle.shop_reads.specs.GoingOn.{Going, Ends, TellsFile, TellsUnit, FailsForLackBy, HasNotFailedBy, ReadsBy}
use Rattle.file_cmds.specs.Read.{HasNoFile, IsUnreadable}
use Rattle.file_cmds.specs.declared.error.CmdError.{CmdError}
use Rattle.file_cmds.specs.declared.error.CmdError.TheVariants as commands
use Rattle.shop_jobs.specs.declared.looks.ListOptions.{ListOptions}
use Rattle.shop_jobs.specs.declared.looks.ReadForm.{ReadForm}
use Rattle.shop_reads.specs.CatalogReply.{IsListed}
use Rattle.shop_reads.specs.EntriesReply.{IsEntriesTold}
use Rattle.shop_reads.specs.ReadReply.{HandsContent, IsRead}
use Rattle.shop_volumes.specs.TellingFailures.{FailsForLack, tells_device}
use Rattle.shop_reads.specs.Refusals.{reply_to_refusal}

module _ (files : FileMeaning) (format : Meaning) (device : DeviceState) where
  pub not_listed : (form : PlaceForm) (error : CmdError) → error ≢ commands.NotFound → (error ≡ commands.Check → HasHeaderFault format device.store)
      → FailsForLack device (reply_to_refusal error) → IsListed form format device (reply_to_refusal error)
  not_listed form commands.Check found fault lack = inr (inl (refl, fault refl))
  not_listed form commands.NotFound found fault lack = absurd (found refl)
  not_listed form commands.Device found fault lack = inr (inr (inl (refl, lack refl)))
  not_listed form commands.Memory found fault lack = inr (inr (inr refl))

  pub not_told : (options : ListOptions) (form : PlaceForm) (error : CmdError) → error ≢ commands.NotFound
      → (error ≡ commands.Check → HasHeaderFault format device.store) → FailsForLack device (reply_to_refusal error)
      → IsEntriesTold options form files format device (reply_to_refusal error)
  not_told options form commands.Check found fault lack = inr (inl (refl, fault refl))
  not_told options form commands.NotFound found fault lack = absurd (found refl)
  not_told options form commands.Device found fault lack = inr (inr (inr (inl (refl, lack refl))))
  not_told options form commands.Memory found fault lack = inr (inr (inr (inr refl)))

  pub not_read : (name : FileNameView) (form : ReadForm) (to_file : Bool) (place : PlaceForm) (error : CmdError)
      → (error ≡ commands.Check → IsUnreadable format files device.store name)
      → (error ≡ commands.NotFound → HasNoFile format files device.store name) → FailsForLack device (reply_to_refusal error)
      → IsRead name form to_file place files format device (reply_to_refusal error)
  not_read name form to_file place commands.Check broken missing lack = inr (inr (inl (refl, broken refl)))
  not_read name form to_file place commands.NotFound broken missing lack = inr (inr (inr (inl (refl, missing refl))))
  not_read name form to_file place commands.Device broken missing lack = inr (inr (inr (inr (inl (refl, lack refl)))))
  not_read name form to_file place commands.Memory broken missing lack = inr (inr (inr (inr (inr refl))))

-- what is handed out is the content of which something is said
pub hands : (to_file : Bool) (Is : List ℕ → Type 0) (content : List ℕ) (reply : Reply) → Is content
    → HandsContent to_file (λ bytes. bytes ≡ content) reply → HandsContent to_file Is reply
hands false Is content reply is told = (told.0, subst Is (sym told.1) is)
hands true Is content reply is told = (told.0, subst Is (sym told.1) is)

-- where the reply to a refusal tells a failure of the device, a read failed
pub refusal_failed : (T : Type 0) (old new : DeviceState) (error : CmdError) → IsTrue old.honest → OnlyReads (told_device {T = T} (Err error)) old new
    → tells_device (reply_to_refusal error) ≡ true → FailedBetween old new
refusal_failed T old new commands.Check honest reads tells = cc
refusal_failed T old new commands.NotFound honest reads tells = cc
refusal_failed T old new commands.Device honest reads tells = one_failed old new honest reads
refusal_failed T old new commands.Memory honest reads tells = cc

pub not_failed : (going : Going) (reply : Reply) (old new : DeviceState) → HasNotFailedBy going reply old new → FailsForLackBy going reply old new
not_failed Ends reply old new works = λ is. absurd (works is)
not_failed TellsFile reply old new works = works
not_failed TellsUnit reply old new works = works

pub no_error : {T E : Type 0} (value : T) (error : E) → ◌≡◌ {A = Result T E} (Ok value) (Err error) → ⊥
no_error value error is = absurd (cc)

-- where the words can't be taken, no device is looked at
pub none_looked : (going : Going) (error : ReserveError) (device : DeviceState) → ReadsBy going (reply_to_reserve error) device device
none_looked Ends reserves.Syntax device = unread device
none_looked Ends reserves.Memory device = unread device
none_looked TellsFile reserves.Syntax device = record { reads = none_read device; told = λ tells. absurd (cc) }
none_looked TellsFile reserves.Memory device = record { reads = none_read device; told = λ tells. absurd (cc) }
none_looked TellsUnit reserves.Syntax device = record { reads = none_read device; told = λ tells. absurd (cc) }
none_looked TellsUnit reserves.Memory device = record { reads = none_read device; told = λ tells. absurd (cc) }

pub none_reserved : (file_system : FileSystem) (reserve : Option Text) (Tells : List Bool → Type 0) (form : PlaceForm) (error : ReserveError) (reply : Reply)
    → form ≡ form_of file_system → (error ≡ reserves.Syntax → ¬ NamesPlaces form reserve) → reply ≡ reply_to_reserve error
    → IsDeviceReply file_system reserve Tells reply
none_reserved file_system reserve Tells form reserves.Syntax reply same none is = inl (is, subst (λ (f : PlaceForm). ¬ NamesPlaces f reserve) same (none refl))
none_reserved file_system reserve Tells form reserves.Memory reply same none is = inr (inl is)
