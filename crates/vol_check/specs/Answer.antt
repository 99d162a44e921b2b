-- What a check answers.
use Rattle.std.specs.Prelude.{◌<◌, ℕ, List, Bool, true, false, Result, Err, length, Contains}
use Rattle.a2_device.specs.declared.fault.Fault.{Fault}
use Rattle.vol_format.specs.Directory.{Directory}
use Rattle.vol_format.specs.Meaning.{Meaning}
use Rattle.vol_format.specs.Accepted.{FaultAt, IsAccepted}
use Rattle.vol_check.specs.FaultFiles.{AreOfFiles}
use Rattle.vol_check.specs.declared.error.CheckError.{CheckError}
use Rattle.vol_check.specs.declared.error.CheckError.TheVariants.{Faults, Device, Memory}
use Rattle.a2_device.specs.declared.stop.Stop.{Stop}
use Rattle.a2_device.specs.declared.stop.Stop.TheVariants.{Device as DeviceStop, Memory as MemoryStop}

-- whether a check ended by a failure of the device
abbrev pub is_device_error : {T A : Type 0} → Result T (CheckError A) → Bool
is_device_error (Err Device) = true
is_device_error result = false

-- the error of a walk that ended early
abbrev pub error_of : {A : Type 0} → Stop → CheckError A
error_of DeviceStop = Device
error_of MemoryStop = Memory

-- A refusal that tells faults tells at least one, each of them is there, and the volume is none to accept.
pub record AreFaults (format : Meaning) (store : List (List ℕ)) (faults : List Fault) : Type 0 where
  pub some : 0 < length faults
  pub there : (fault : Fault) → Contains faults fault → FaultAt format store fault
  pub refused : (directory : Directory) → ¬ IsAccepted format directory store

abbrev pub IsRefusal : {A : Type 0} → Meaning → List (List ℕ) → CheckError A → Type 0
IsRefusal format store (Faults list) = AreFaults format store list.faults
IsRefusal format store error = Unit {0}

-- a refusal that tells faults tells with each of which file it is
abbrev pub IsRefusalOfFiles : {A : Type 0} → Meaning → List (List ℕ) → CheckError A → Type 0
IsRefusalOfFiles format store (Faults list) = AreOfFiles format store list
IsRefusalOfFiles format store error = Unit {0}
