-- What a device says of a read and of a write, each as one fact.
use Rattle.std.specs.Prelude.{◌≡◌, ◌≢◌, ◌↔◌, ℕ, List, Contains, Result, Err, IsErr, IsErrOf, IsTrue, OnOk, is_err}
use Rattle.a2_device.specs.declared.device.DeviceError.{DeviceError}
use Rattle.a2_device.specs.declared.device.DeviceError.TheVariants.{Fault, Spent}
use Rattle.a2_device.specs.Device.{DeviceState, FailsRead, FailsWrite, IsClosed, IsSameDevice, KeepsUnits, OnlyReads}
use Rattle.a2_device.specs.Device.{counted, faults_after, last_count, unit_at, written, writes_after}

-- the clauses of a read of the unit at a place
pub record Reads {T : Type 0} (place : ℕ) (unit : List ℕ) (result : Result T DeviceError) (old new : DeviceState) :
    Type 0 where
  pub device : OnlyReads (is_err result) old new
  pub not_spent : result ≢ Err Spent
  pub read : IsTrue old.honest → OnOk result (unit ≡ unit_at old.store place)
  pub unreadable : IsTrue old.honest → Contains old.unreadable place → IsErr result
  pub failed : IsTrue old.honest → IsErr result → FailsRead place old new

-- the clauses of a write of a unit at a place
pub record Writes {T : Type 0} (place : ℕ) (unit : List ℕ) (result : Result T DeviceError)
    (old new : DeviceState) : Type 0 where
  pub same : IsSameDevice old new
  pub faults : new.faults ≡ faults_after result old.faults
  pub writes : IsTrue old.honest → new.writes ≡ writes_after result old.writes
  pub spent : IsTrue old.honest → IsErrOf result Spent ↔ (old.writes ≡ last_count)
  pub spent_keeps : IsTrue old.honest → IsErrOf result Spent → new ≡ record old { faults = counted old.faults }
  pub written : IsTrue old.honest → OnOk result (new ≡ written place unit old)
  pub closed : IsTrue old.honest → IsClosed place old → IsErr result
  pub closed_keeps : IsTrue old.honest → IsClosed place old → KeepsUnits old new
  pub failed : IsTrue old.honest → IsErrOf result Fault → FailsWrite place unit old new
