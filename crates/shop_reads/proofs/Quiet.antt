-- Which replies tell a failure of the device.
use Rattle.std.proofs.Common.{◌≡◌, ◌∙◌, refl, sym, ap, subst, inl, inr}
use Rattle.std.specs.Prelude.{◌⊎◌, Bool, true, false, Err, List}
use Rattle.a2_device.specs.Device.{DeviceState, OnlyReads}
use Rattle.a2_device.specs.declared.fault.Fault.{Fault}
use Rattle.vol_layout.specs.declared.form.PlaceForm.{PlaceForm}
use Rattle.file_cmds.specs.lemmas.Reading.{one_failed, one_reading}
use Rattle.vol_check.specs.Answer.{is_device_error as check_failed}
use Rattle.vol_check.specs.declared.error.CheckError.{CheckError}
use Rattle.vol_check.specs.declared.error.CheckError.TheVariants as checks
use Rattle.vol_mover.specs.Refused.{is_device_error as opening_failed}
use Rattle.vol_mover.specs.declared.error.OpenError.{OpenError}
use Rattle.vol_mover.specs.declared.error.OpenError.TheVariants as opens
use Rattle.shop_replies.specs.declared.refusal.Failure.TheVariants as failures
use Rattle.shop_replies.specs.declared.reply.Reply.{Reply}
use Rattle.shop_replies.specs.declared.reply.Status.{Status}
use Rattle.shop_replies.specs.declared.reply.Status.TheVariants.{Done, Refused, Wrong}
use Rattle.shop_replies.specs.declared.reply.Told.{Told}
use Rattle.shop_replies.specs.Reply.{IsTold, failed}
use Rattle.shop_reads.specs.CheckReply.{TellsFaults, TellsRefusal}
use Rattle.shop_reads.specs.EntriesReply.{list_status}
use Rattle.shop_reads.specs.GoingOn.{ReadsAll}
use Rattle.shop_volumes.specs.Unopened.{TellsOpening}
use Rattle.shop_volumes.specs.TellingFailures.{fails_device, tells_device}

-- none with another status
told_quiet : (status : Status) (reply : Reply) → ((told : Told) → fails_device status told ≡ false) → IsTold status reply → tells_device reply ≡ false
told_quiet status reply never is = ap (λ (s : Status). fails_device s reply.told) is.0 ∙ never reply.told

-- a text, or want of memory
text_quiet : {P : Type 0} (reply : Reply) → (IsTold Done reply × P) ⊎ (reply ≡ failed failures.Memory) → tells_device reply ≡ false
text_quiet reply is = elim is [
  | inl told ↦ told_quiet Done reply (λ told. refl) told.0
  | inr failed ↦ ap tells_device failed
]

-- and that of a list
pub list_quiet : {P : Type 0} (complete : Bool) (reply : Reply) → (IsTold (list_status complete) reply × P) ⊎ (reply ≡ failed failures.Memory) → tells_device reply ≡ false
list_quiet complete reply is = elim is [
  | inl told ↦ told_quiet (list_status complete) reply (never complete) told.0
  | inr failed ↦ ap tells_device failed
]
  where
    never : (complete : Bool) (told : Told) → fails_device (list_status complete) told ≡ false
    never true told = refl
    never false told = refl

-- that of a volume that has faults
faults_quiet : (form : PlaceForm) (faults : List Fault) (reply : Reply) → TellsFaults form faults reply → tells_device reply ≡ false
faults_quiet form faults reply is = elim is [
  | inl told ↦ told_quiet Wrong reply (λ told. refl) told.0
  | inr failed ↦ ap tells_device failed
]

-- that of a check that did not accept, where the check met the failure
check_told : {A : Type 0} (form : PlaceForm) (error : CheckError A) (reply : Reply) → TellsRefusal form error reply → tells_device reply ≡ check_failed {T = Bool} (Err error)
check_told form (checks.Faults list) reply is = faults_quiet form list.faults reply is
check_told form checks.Device reply is = ap tells_device is
check_told form checks.Memory reply is = ap tells_device is

-- and that of an opening
opening_told : {A : Type 0} (error : OpenError A) (reply : Reply) → TellsOpening error reply → tells_device reply ≡ opening_failed {T = Bool} (Err error)
opening_told (opens.Check faults) reply is = ap tells_device is
opening_told (opens.Lost count) reply is = elim is [
  | inl told ↦ told_quiet Refused reply (λ told. refl) told.0
  | inr failed ↦ ap tells_device failed
]
opening_told opens.NoFreePlace reply is = ap tells_device is
opening_told opens.Device reply is = ap tells_device is
opening_told opens.Memory reply is = ap tells_device is

-- so each tells that the device was only read, and whether it failed
module _ (reply : Reply) (old new : DeviceState) where
  pub text_reads : {P : Type 0} → (IsTold Done reply × P) ⊎ (reply ≡ failed failures.Memory) → OnlyReads false old new → OnlyReads (tells_device reply) old new
  text_reads is reads = subst (λ (met : Bool). OnlyReads met old new) (sym (text_quiet reply is)) reads

  -- that of a list, whatever it found
  pub list_reads : {P : Type 0} (complete : Bool) → (IsTold (list_status complete) reply × P) ⊎ (reply ≡ failed failures.Memory) → OnlyReads false old new
      → OnlyReads (tells_device reply) old new
  list_reads complete is reads = subst (λ (met : Bool). OnlyReads met old new) (sym (list_quiet complete reply is)) reads

  pub check_reads : {A : Type 0} (form : PlaceForm) (error : CheckError A) → TellsRefusal form error reply → OnlyReads (check_failed {T = Bool} (Err error)) old new
      → OnlyReads (tells_device reply) old new
  check_reads form error is reads = subst (λ (met : Bool). OnlyReads met old new) (sym (check_told form error reply is)) reads

  pub faults_read : (form : PlaceForm) (faults : List Fault) → TellsFaults form faults reply → OnlyReads false old new → OnlyReads (tells_device reply) old new
  faults_read form faults is reads = subst (λ (met : Bool). OnlyReads met old new) (sym (faults_quiet form faults reply is)) reads

  -- and where it would have gone on
  pub check_goes_on : {A : Type 0} (form : PlaceForm) (error : CheckError A) → TellsRefusal form error reply → OnlyReads (check_failed {T = Bool} (Err error)) old new
      → ReadsAll reply old new
  check_goes_on form error is reads =
      let read = check_reads form error is reads in
      record {
        reads = one_reading old new (tells_device reply) read;
        told = λ tells honest. one_failed old new honest (subst (λ (met : Bool). OnlyReads met old new) tells read);
      }

  -- so of faults
  pub faults_go_on : (form : PlaceForm) (faults : List Fault) → TellsFaults form faults reply → OnlyReads false old new → ReadsAll reply old new
  faults_go_on form faults is reads =
      let read = faults_read form faults is reads in
      record {
        reads = one_reading old new (tells_device reply) read;
        told = λ tells honest. one_failed old new honest (subst (λ (met : Bool). OnlyReads met old new) tells read);
      }

  pub opening_reads : {A : Type 0} (error : OpenError A) → TellsOpening error reply → OnlyReads (opening_failed {T = Bool} (Err error)) old new
      → OnlyReads (tells_device reply) old new
  opening_reads error is reads = subst (λ (met : Bool). OnlyReads met old new) (sym (opening_told error reply is)) reads
