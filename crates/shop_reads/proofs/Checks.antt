-- What was said of a volume.
use Rattle.std.proofs.Common.{◌≡◌, ◌⊎◌, None, Some, inl, inr}
use Rattle.std.specs.Prelude.{flat_map}
use Rattle.a2_device.specs.Device.{DeviceState}
use Rattle.vol_layout.specs.declared.form.PlaceForm.{PlaceForm}
use Rattle.vol_format.specs.Meaning.{Meaning}
use Rattle.vol_check.specs.Answer.{IsRefusal}
use Rattle.vol_check.specs.declared.error.CheckError.{CheckError}
use Rattle.vol_check.specs.declared.error.CheckError.TheVariants as checks
use Rattle.shop_replies.specs.declared.reply.Reply.{Reply}
use Rattle.file_formats.specs.Files.{FileMeaning}
use Rattle.vol_check.specs.FaultFiles.{FaultList}
use Rattle.vol_check.specs.Judgement.{AreFileFaults}
use Rattle.vol_format.specs.Directory.{Directory}
use Rattle.shop_replies.specs.Reply.{fault_files_in, text_of}
use Rattle.shop_reads.specs.CheckReply.{IsChecked, IsUnaccepted, TellsFaults, TellsRefusal}
use Rattle.shop_reads.specs.CheckText.{fault_line}
use Rattle.shop_reads.specs.FaultLines.{NamesFilesOrNone, file_lines}
use Rattle.shop_volumes.specs.TellingFailures.{FailsForLack}

-- a volume that is not accepted, or could not be checked
pub check_refused : {A : Type 0} (form : PlaceForm) (format : Meaning) (device : DeviceState) (error : CheckError A) (reply : Reply)
    → FailsForLack device reply → IsRefusal format device.store error → TellsRefusal form error reply → IsUnaccepted form format device reply
check_refused form format device (checks.Faults list) reply lack refusal tells = elim tells [
  | inl told ↦ inl (told.0, record { faults = list.faults; are = refusal; is = told.1 })
  | inr failed ↦ inr (inr failed)
]
check_refused form format device checks.Device reply lack refusal tells = inr (inl (tells, lack tells))
check_refused form format device checks.Memory reply lack refusal tells = inr (inr tells)

-- a volume whose parts or entries have faults, with the files of these
module _ (form : PlaceForm) (files : FileMeaning) (format : Meaning) (directory : Directory) (device : DeviceState) (list : FaultList) (reply : Reply)
    (are : AreFileFaults format directory device.store list) where
  pub faults_unaccepted : TellsFaults form list.faults reply → IsUnaccepted form format device reply
  faults_unaccepted tells = elim tells [
    | inl told ↦ inl (told.0, record { faults = list.faults; are = are.are; is = told.1 })
    | inr failed ↦ inr (inr failed)
  ]

  pub faults_told : TellsFaults form list.faults reply → IsChecked form format device reply
  faults_told tells = inr (faults_unaccepted tells)

  pub files_named : ((fault_files_in reply.told ≡ None) ⊎ ((text_of reply ≡ flat_map (fault_line form) list.faults)
      × (fault_files_in reply.told ≡ Some (file_lines form files directory list)))) → NamesFilesOrNone form files format device.store reply
  files_named named = elim named [
    | inl none ↦ inl none
    | inr lines ↦ inr (record { directory = directory; list = list; are = are; told = lines.0; named = lines.1 })
  ]
