-- What a replay holds between two events, and what the calls that it makes do to it, over every device.
use Rattle.std.specs.Prelude.{◌≡◌, ◌≢◌, ◌<◌, ◌⊎◌, ℕ, List, length, false, Result, Ok, Err, IfOk, IsTrue}
use Rattle.a2_device.specs.Device.{DeviceState, OnlyReads}
use Rattle.vol_format.specs.Directory.{Directory}
use Rattle.vol_format.specs.Meaning.{Meaning}
use Rattle.vol_mover.specs.Refused.{IsRefusal, is_device_error}
use Rattle.vol_mover.specs.declared.error.OpenError.{OpenError}
use Rattle.vol_mover.specs.declared.error.OpenError.TheVariants.{Memory as OpenMemory}
use Rattle.vol_mover.specs.Tasks.{Course}
use Rattle.vol_mover.specs.Begun.{IsBegun}
use Rattle.vol_mover.specs.Present.{Present, IsSession}
use Rattle.vol_mover.specs.Shown.{present}
use Rattle.vol_mover.specs.Steps.{IsStep}
use Rattle.vol_mover.specs.declared.progress.Progress.{Progress}
use Rattle.vol_mover.specs.declared.progress.StepError.{StepError}
use Rattle.file_formats.specs.FileNames.{GivenPath}
use Rattle.file_formats.specs.Files.{FileMeaning}
use Rattle.file_cmds.specs.Read.{IsTextAt, IsUnreadable, HasNoFile}
use Rattle.file_cmds.specs.Refusal.{told_device}
use Rattle.file_cmds.specs.declared.error.CmdError.{CmdError}
use Rattle.file_cmds.specs.declared.error.CmdError.TheVariants.{Check, NotFound, Memory}
use Rattle.event_replay.specs.Orders.{HasMetRead, HasNoReadOrder, read_ordered, write_ordered}
use Rattle.event_replay.specs.Runs.{Gives}
use Rattle.event_replay.specs.Volumes.{reclaiming}
use Rattle.event_replay.specs.declared.event.Answer.{Answer}
use Rattle.event_replay.specs.declared.event.Answer.TheVariants.{Stepped, Refused, NoMemory}
use Rattle.event_replay.specs.declared.event.Event.{Event}
use Rattle.event_replay.specs.declared.event.Event.TheVariants.{Step, Read, FailRead, FailWrite, Stop}
use Rattle.event_replay.specs.declared.turning.Held.{Held}
use Rattle.event_replay.specs.declared.turning.Held.TheVariants.{Session as HeldSession, Device as HeldDevice}
use Rattle.event_replay.specs.declared.turning.Replay.{Replay}

-- a session, with its device; or a device alone
pub data Holds : Type 0 where
  ASession : Present → Holds
  ADevice : DeviceState → Holds

abbrev pub device_of : Holds → DeviceState
device_of (ASession session) = session.device
device_of (ADevice device) = device

abbrev pub held : {D F A V : Type 0} → (D → DeviceState) → (F → V → Directory) → Held D F A V → Holds
held state directory (HeldSession session) = ASession (present state directory session)
held state directory (HeldDevice device) = ADevice (state device)

abbrev pub holds : {D F A V : Type 0} → (D → DeviceState) → (F → V → Directory) → Replay D F A V → Holds
holds state directory replay = held state directory replay.held

-- a session is one of this format
abbrev pub IsOfFormat : {D F A V : Type 0} → F → Held D F A V → Type 0
IsOfFormat format (HeldSession session) = session.format.now ≡ format
IsOfFormat format (HeldDevice device) = Unit {0}

-- the work of a session has come as far as some course; a device has as many places as the format takes, and its units
abbrev pub Fits : Meaning → Holds → Type 0
Fits format (ASession session) = (course : Course) × IsSession format session course
Fits format (ADevice device) = (device.unit_size ≡ format.unit_size) × format.Takes device.places

-- what is true of a replay between two events
pub record IsSound {D F A V : Type 0} (meaning : F → Meaning) (state : D → DeviceState) (directory : F → V → Directory)
    (replay : Replay D F A V) : Type 0 where
  pub format : IsOfFormat replay.format.now replay.held
  pub fits : Fits (meaning replay.format.now) (holds state directory replay)

-- what is answered to a step
abbrev pub step_answer : {A : Type 0} → Result Progress StepError → Answer A
step_answer (Ok progress) = Stepped
step_answer (Err error) = Refused

-- the next step of a session reads a unit
abbrev pub ReadsNext : Present → Type 0
ReadsNext session = (session.closed ≡ false) × (0 < length session.tasks)

-- an order to fail a read was met over the device of a session, and the event is refused
pub record MeetsOrder {A : Type 0} (old : Present) (answer : Answer A) (new : Present) : Type 0 where
  pub met : HasMetRead old.device new.device
  pub only : new ≡ record old { device = new.device }
  pub answers : answer ≡ Refused

-- a step of a session, and what is answered
pub record StepsSession {A : Type 0} (format : Meaning) (old : Present) (answer : Answer A) (new : Present) :
    Type 0 where
  pub result : Result Progress StepError
  pub step : IsStep format old new result
  pub answers : answer ≡ step_answer result

-- a step of a session, unless its read meets an order to fail
abbrev pub StepsToOrder : {A : Type 0} → Meaning → Present → Answer A → Present → Type 0
StepsToOrder format old answer new =
    (ReadsNext old × MeetsOrder old answer new)
    ⊎ ((ReadsNext old → HasNoReadOrder old.device) × StepsSession format old answer new)

-- a step of a session, or none
abbrev pub StepsHolds : {A : Type 0} → Meaning → Holds → Answer A → Holds → Type 0
StepsHolds format (ASession old) answer (ASession new) = StepsToOrder format old answer new
StepsHolds format (ADevice old) answer (ADevice new) = (new ≡ old) × (answer ≡ Refused)
StepsHolds format old answer new = ⊥

-- what is answered to a read that gave a text, or failed
abbrev pub AnswersRead : {A : Type 0} → Result (List ℕ) CmdError → Answer A → Type 0
AnswersRead (Ok text) answer = Gives answer text
AnswersRead (Err Memory) answer = answer ≡ NoMemory
AnswersRead (Err error) answer = answer ≡ Refused

-- a read of a file on a device
pub record ReadsDevice {A : Type 0} (format : Meaning) (files : FileMeaning) (path : List ℕ) (old : DeviceState)
    (answer : Answer A) (new : DeviceState) : Type 0 where
  pub result : Result (List ℕ) CmdError
  pub device : OnlyReads (told_device result) old new
  pub text : IsTrue old.honest → IfOk result (IsTextAt format files old.store (GivenPath path) false)
  pub check : IsTrue old.honest → result ≡ Err Check → IsUnreadable format files old.store (GivenPath path)
  pub not_found : IsTrue old.honest → result ≡ Err NotFound → HasNoFile format files old.store (GivenPath path)
  pub answers : AnswersRead result answer

-- a read of a file, unless its first read meets an order to fail
abbrev pub ReadsFileToOrder : {A : Type 0} → Meaning → FileMeaning → List ℕ → DeviceState → Answer A → DeviceState
    → Type 0
ReadsFileToOrder format files path old answer new =
    (HasMetRead old new × (answer ≡ Refused)) ⊎ (HasNoReadOrder old × ReadsDevice format files path old answer new)

abbrev pub ReadsHolds : {A : Type 0} → Meaning → FileMeaning → List ℕ → Holds → Answer A → Holds → Type 0
ReadsHolds format files path (ASession old) answer (ASession new) =
    ReadsFileToOrder format files path old.device answer new.device × (new ≡ record old { device = new.device })
ReadsHolds format files path (ADevice old) answer (ADevice new) = (new ≡ old) × (answer ≡ Refused)
ReadsHolds format files path old answer new = ⊥

-- a session whose device has changed, or a device that has
abbrev pub ChangesHolds : (DeviceState → DeviceState) → Holds → Holds → Type 0
ChangesHolds change (ASession old) (ASession new) = new ≡ record old { device = change old.device }
ChangesHolds change (ADevice old) (ADevice new) = new ≡ change old
ChangesHolds change old new = ⊥

-- an opening that was refused, and not for want of memory
pub record IsRefusedOpening {A : Type 0} (format : Meaning) (old : DeviceState) (answer : Answer A)
    (new : DeviceState) : Type 0 where
  pub error : OpenError A
  pub device : OnlyReads (is_device_error {T = Unit {0}} (Err error)) old new
  pub refused : IsTrue old.honest → IsRefusal format old.store reclaiming error
  pub not_memory : error ≢ OpenMemory
  pub answers : answer ≡ Refused

-- a session was opened on a device, or refused
abbrev pub OpensHolds : {A : Type 0} → Meaning → DeviceState → Answer A → Holds → Type 0
OpensHolds format old answer (ASession new) = IsBegun format reclaiming old new × (answer ≡ Stepped)
OpensHolds format old answer (ADevice new) = IsRefusedOpening format old answer new

-- a session was opened on a device or refused, unless the opening meets an order to fail a read
abbrev pub OpensToOrder : {A : Type 0} → Meaning → DeviceState → Answer A → Holds → Type 0
OpensToOrder format old answer new =
    (HasMetRead old (device_of new) × (new ≡ ADevice (device_of new)) × (answer ≡ Refused))
    ⊎ (HasNoReadOrder old × OpensHolds format old answer new)

-- an event
abbrev pub TurnsHolds : {A : Type 0} → Meaning → FileMeaning → Event → Holds → Answer A → Holds → Type 0
TurnsHolds format files Step old answer new = StepsHolds format old answer new
TurnsHolds format files (Read path) old answer new = ReadsHolds format files path.now old answer new
TurnsHolds format files FailRead old answer new = (answer ≡ Stepped) × ChangesHolds read_ordered old new
TurnsHolds format files (FailWrite took) old answer new = (answer ≡ Stepped) × ChangesHolds (write_ordered took) old new
TurnsHolds format files Stop old answer new = OpensToOrder format (device_of old) answer new
