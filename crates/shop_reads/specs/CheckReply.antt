-- What is told of a volume that is checked.
use Rattle.std.specs.Prelude.{◌≡◌, ◌⊎◌, ◌↔◌, ℕ, List, Contains, flat_map}
use Rattle.a2_device.specs.Device.{DeviceState}
use Rattle.a2_device.specs.declared.fault.Fault.{Fault}
use Rattle.vol_layout.specs.declared.form.PlaceForm.{PlaceForm}
use Rattle.vol_format.specs.Accepted.{IsAccepted}
use Rattle.vol_format.specs.Directory.{Directory}
use Rattle.vol_format.specs.Meaning.{Meaning}
use Rattle.vol_format.specs.Reach.{IsPartsOf}
use Rattle.vol_format.specs.Standing.{IsLost}
use Rattle.vol_check.specs.Answer.{AreFaults}
use Rattle.vol_check.specs.Told.{Told, IsToldOf}
use Rattle.vol_check.specs.declared.error.CheckError.{CheckError}
use Rattle.vol_check.specs.declared.error.CheckError.TheVariants as checks
use Rattle.file_listings.specs.DosText.{Text}
use Rattle.shop_reads.specs.CheckText.{fault_line, told_line}
use Rattle.shop_replies.specs.declared.refusal.Failure.TheVariants as failures
use Rattle.shop_replies.specs.declared.reply.Reply.{Reply}
use Rattle.shop_replies.specs.Reply.{IsTold, failed, text_of}
use Rattle.shop_replies.specs.declared.reply.Status.TheVariants.{Done, Wrong}
use Rattle.shop_replies.specs.Volume.{LacksUnit}

-- The volume is accepted, and these are its files, their parts, the available places and the lost ones, by number.
pub record IsAcceptedText (format : Meaning) (store : List (List ℕ)) (text : Text) : Type 0 where
  pub directory : Directory
  pub accepted : IsAccepted format directory store
  pub told : Told
  pub of_directory : IsToldOf directory told
  pub parts : IsPartsOf format directory store told.parts
  pub lost : (place : ℕ) → Contains told.lost place ↔ IsLost format directory store place
  pub is : text ≡ told_line told

-- The volume has these faults, and a line tells each.
pub record IsFaultsText (form : PlaceForm) (format : Meaning) (store : List (List ℕ)) (text : Text) : Type 0 where
  pub faults : List Fault
  pub are : AreFaults format store faults
  pub is : text ≡ flat_map (fault_line form) faults

-- the reply with the text of what is told of an accepted volume, or for want of memory
abbrev pub TellsAccepted : Told → Reply → Type 0
TellsAccepted told reply = (IsTold Done reply × (text_of reply ≡ told_line told)) ⊎ (reply ≡ failed failures.Memory)

-- the reply with the text of some faults, or for want of memory
abbrev pub TellsFaults : PlaceForm → List Fault → Reply → Type 0
TellsFaults form faults reply =
    (IsTold Wrong reply × (text_of reply ≡ flat_map (fault_line form) faults)) ⊎ (reply ≡ failed failures.Memory)

-- the reply to a check that did not accept
abbrev pub TellsRefusal : {A : Type 0} → PlaceForm → CheckError A → Reply → Type 0
TellsRefusal form (checks.Faults list) reply = TellsFaults form list.faults reply
TellsRefusal form checks.Device reply = reply ≡ failed failures.Device
TellsRefusal form checks.Memory reply = reply ≡ failed failures.Memory

-- The reply to a check that accepts nothing: a line for each fault; a failure where a unit can't be read; or want of
-- memory.
abbrev pub IsUnaccepted : PlaceForm → Meaning → DeviceState → Reply → Type 0
IsUnaccepted form format device reply =
    (IsTold Wrong reply × IsFaultsText form format device.store (text_of reply))
    ⊎ ((reply ≡ failed failures.Device) × LacksUnit device)
    ⊎ (reply ≡ failed failures.Memory)

-- The reply to a check: what is told of an accepted volume, or why none is.
abbrev pub IsChecked : PlaceForm → Meaning → DeviceState → Reply → Type 0
IsChecked form format device reply =
    (IsTold Done reply × IsAcceptedText format device.store (text_of reply)) ⊎ IsUnaccepted form format device reply
