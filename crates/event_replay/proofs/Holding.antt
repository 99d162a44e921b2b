-- What a replay holds, after calls of the device of its session.
use Rattle.std.specs.Prelude.{◌≡◌, ℕ, Bool, true, false, List, Result, Ok, Err, IfOk, IsTrue}
use Rattle.std.proofs.Common.{refl, sym, ◌∙◌, ap, subst, inl, inr}
use Rattle.a2_device.specs.Device.{DeviceState, OnlyReads}
use Rattle.vol_format.specs.Meaning.{Meaning}
use Rattle.vol_mover.specs.Present.{Present}
use Rattle.vol_mover.specs.Resuming.{CanResume}
use Rattle.vol_mover.proofs.Sessions.{resumed_session}
use Rattle.vol_mover.proofs.Stepping.{reads_keep}
use Rattle.file_formats.specs.FileNames.{GivenPath}
use Rattle.file_formats.specs.Files.{FileMeaning}
use Rattle.file_cmds.specs.Read.{IsTextAt, IsUnreadable, HasNoFile}
use Rattle.file_cmds.specs.Refusal.{told_device}
use Rattle.file_cmds.specs.declared.error.CmdError.{CmdError}
use Rattle.file_cmds.specs.declared.error.CmdError.TheVariants.{Check, NotFound, Device, Memory}
use Rattle.event_replay.specs.Holds.{ASession, AnswersRead, Fits, ReadsDevice, ReadsFileToOrder}
use Rattle.event_replay.specs.declared.event.Answer.{Answer}
use Rattle.event_replay.proofs.Devices.{met_reads}

-- a session goes on over a device on which it can
pub goes_on : (format : Meaning) (old : Present) (device : DeviceState) → Fits format (ASession old) → CanResume old.device device
    → Fits format (ASession (record old { device = device }))
goes_on format old device (course, session) can = (course, resumed_session format old course session device old.unit refl can)

pub read_can : (failed : Bool) (old new : DeviceState) → OnlyReads failed old new → CanResume old new
read_can failed old new reads = record {
  places = reads.same.places;
  unit_size = reads.same.unit_size;
  honest = λ honest. subst IsTrue reads.same.honest honest;
  store = λ honest. (reads_keep failed old new reads (subst IsTrue reads.same.honest honest)).0;
}

pub file_can : {A : Type 0} (format : Meaning) (files : FileMeaning) (path : List ℕ) (old : DeviceState)
    (answer : Answer A) (new : DeviceState)
    → ReadsFileToOrder format files path old answer new → CanResume old new
file_can format files path old answer new (inl (met, is)) = read_can true old new (met_reads old new met)
file_can format files path old answer new (inr (none, reads)) = read_can (told_device reads.result) old new reads.device

pub with_device : (old new : Present) (device : DeviceState) → new ≡ record old { device = device } → (new.device ≡ device) × (new ≡ record old { device = new.device })
with_device old new device is =
    let same : new.device ≡ device = ap (λ (p : Present). p.device) is in
    (same, is ∙ ap (λ (d : DeviceState). record old { device = d }) (sym same))

-- the texts that a result has
abbrev pub texts : {V : Type 0} → (V → List ℕ) → Result V CmdError → Result (List ℕ) CmdError
texts items (Ok value) = Ok (items value)
texts items (Err error) = Err error

module _ {A V : Type 0} (items : V → List ℕ) (format : Meaning) (files : FileMeaning) (path : List ℕ) (old new : DeviceState) (answer : Answer A) where
  pub read_device : (result : Result V CmdError) → OnlyReads (told_device result) old new
      → (IsTrue old.honest → IfOk result (λ value. IsTextAt format files old.store (GivenPath path) false (items value)))
      → (IsTrue old.honest → result ≡ Err Check → IsUnreadable format files old.store (GivenPath path))
      → (IsTrue old.honest → result ≡ Err NotFound → HasNoFile format files old.store (GivenPath path))
      → AnswersRead (texts items result) answer → ReadsDevice format files path old answer new
  read_device (Ok value) device text check none answers = record {
    result = Ok (items value);
    device = device;
    text = text;
    check = λ honest is. absurd (cc (is));
    not_found = λ honest is. absurd (cc (is));
    answers = answers;
  }
  read_device (Err error) device text check none answers = record {
    result = Err error;
    device = by_error error device;
    text = λ honest. tt;
    check = λ honest is. let same : error ≡ Check = cc (is) in check honest (ap Err same);
    not_found = λ honest is. let same : error ≡ NotFound = cc (is) in none honest (ap Err same);
    answers = answers;
  }
    where
      by_error : (e : CmdError) → OnlyReads (told_device {T = V} (Err e)) old new → OnlyReads (told_device {T = List ℕ} (Err e)) old new
      by_error Check reads = reads
      by_error NotFound reads = reads
      by_error Device reads = reads
      by_error Memory reads = reads
