-- What is told of a certificate.
use Rattle.std.specs.Prelude.{◌≡◌, ◌≢◌, ◌⊎◌, ◌<◌, ◌≤◌, ℕ, Bool, List, ◌++◌, codes, decimal, length}
use Rattle.a2_device.specs.Device.{DeviceState}
use Rattle.vol_layout.specs.Layouts.{Placement}
use Rattle.ring_cert.specs.Certificates.{Certificate, HasText, certificate_text}
use Rattle.ring_cert.specs.Faults.{IsNoText}
use Rattle.ring_cert.specs.Good.{IsFirstFault, IsGood}
use Rattle.ring_cert.specs.declared.certificate.CertError.{CertError}
use Rattle.ring_cert.specs.declared.certificate.CertError.TheVariants as texts
use Rattle.ring_cert.specs.declared.certificate.CertFault.{CertFault}
use Rattle.ring_cert.specs.declared.certificate.CertFault.TheVariants as faults
use Rattle.vol_format.specs.Meaning.{Meaning}
use Rattle.vol_check.specs.Told.{Told}
use Rattle.file_listings.specs.DosText.{Text, line}
use Rattle.shop_replies.specs.declared.refusal.Refusal.TheVariants as refusals
use Rattle.shop_replies.specs.declared.refusal.Failure.TheVariants as failures
use Rattle.shop_replies.specs.declared.reply.Reply.{Reply}
use Rattle.shop_volumes.specs.Unopened.{IsUnopenedReply}
use Rattle.shop_reads.specs.PlanReply.{IsOpened}
use Rattle.shop_replies.specs.Reply.{IsTold, failed, refused, text_of}
use Rattle.shop_replies.specs.declared.reply.Status.TheVariants.{Done, Wrong}

-- the most bytes that are read of a certificate
abbrev pub most_certificate : ℕ
most_certificate = 16777216

-- a fault by its name, with its number where it has one
abbrev pub fault_text : CertFault → Text
fault_text faults.OtherLayout = codes "OtherLayout"
fault_text (faults.NotMisplaced part) = codes "NotMisplaced " ++ decimal part
fault_text (faults.Repeated part) = codes "Repeated " ++ decimal part
fault_text (faults.NotARing ring) = codes "NotARing " ++ decimal ring
fault_text (faults.IllegalMove move) = codes "IllegalMove " ++ decimal move
fault_text faults.NotAtTarget = codes "NotAtTarget"
fault_text faults.Sum = codes "Sum"
fault_text faults.Memory = codes "Memory"

-- the reply to a certificate with this fault, and to bytes that are no certificate's text
abbrev pub TellsFault : CertFault → Reply → Type 0
TellsFault fault reply =
    ((fault ≢ faults.Memory) × IsTold Wrong reply × (text_of reply ≡ line (codes "REFUSED " ++ fault_text fault)))
    ⊎ (reply ≡ failed failures.Memory)

abbrev pub TellsNoText : CertError → Reply → Type 0
TellsNoText (texts.Syntax number) reply =
    (IsTold Wrong reply × (text_of reply ≡ line (codes "REFUSED Syntax " ++ decimal number)))
    ⊎ (reply ≡ failed failures.Memory)
TellsNoText texts.Memory reply = reply ≡ failed failures.Memory

-- the bytes are the text of a certificate that is good for the layout: no plan has fewer moves than its bound
pub record IsOptimal (layout : Placement) (bytes : List ℕ) (reply : Reply) : Type 0 where
  pub certificate : Certificate
  pub has_text : HasText certificate
  pub is_text : bytes ≡ certificate_text certificate
  pub good : IsGood layout certificate
  pub done : IsTold Done reply
  pub told : text_of reply ≡ line (codes "OPTIMAL " ++ decimal certificate.bound)

-- they are the text of one that is not, and this is its first fault
pub record IsNotOptimal (layout : Placement) (bytes : List ℕ) (reply : Reply) : Type 0 where
  pub certificate : Certificate
  pub has_text : HasText certificate
  pub is_text : bytes ≡ certificate_text certificate
  pub fault : CertFault
  pub first : IsFirstFault layout certificate fault
  pub told : TellsFault fault reply

-- they are the text of none, and this is the first line that cannot stand
pub record IsNoCertificate (bytes : List ℕ) (reply : Reply) : Type 0 where
  pub number : ℕ
  pub none : IsNoText bytes number
  pub faulty : IsTold Wrong reply
  pub told : text_of reply ≡ line (codes "REFUSED Syntax " ++ decimal number)

abbrev pub IsVerdict : Placement → List ℕ → Reply → Type 0
IsVerdict layout bytes reply =
    IsOptimal layout bytes reply ⊎ IsNotOptimal layout bytes reply ⊎ IsNoCertificate bytes reply
    ⊎ (reply ≡ failed failures.Memory)

-- the verdict on the layout of the volume
pub record IsVerdictReply (reclaim : Bool) (bytes : List ℕ) (format : Meaning) (device : DeviceState)
    (reply : Reply) : Type 0 where
  pub volume : Told
  pub opened : IsOpened reclaim format device.store volume
  pub verdict : IsVerdict volume.layout bytes reply

abbrev pub IsVerified : Bool → List ℕ → Meaning → DeviceState → Reply → Type 0
IsVerified reclaim bytes format device reply =
    ((reply ≡ refused refusals.InputTooLong) × (most_certificate < length bytes))
    ⊎ ((length bytes ≤ most_certificate)
    × (IsVerdictReply reclaim bytes format device reply ⊎ IsUnopenedReply reclaim format device reply))
