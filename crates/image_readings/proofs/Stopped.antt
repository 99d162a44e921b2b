-- What a walk that stopped tells of a volume.
use Rattle.std.proofs.Common.{◌≡◌, ◌==◌, Bool, true, false, if◌then◌else◌, inl, inr, refl}
use Rattle.std.specs.Prelude.{IfOk, IsTrue, Result, Some, Ok, Err}
use Rattle.std.specs.declared.alloc.AllocError.{AllocError}
use Rattle.a2_device.specs.Device.{DeviceState, OnlyReads}
use Rattle.a2_device.specs.Reading.{met_device}
use Rattle.vol_format.specs.Meaning.{Meaning}
use Rattle.a2_device.specs.declared.fault.Fault.{Fault}
use Rattle.a2_device.specs.declared.fault.Fault.TheVariants as faults
use Rattle.a2_device.specs.declared.fault.WalkError.{WalkError}
use Rattle.a2_device.specs.declared.fault.WalkError.TheVariants as walks
use Rattle.shop_replies.proofs.Lacking.{unit_lacks}
use Rattle.shop_jobs.specs.declared.input.FileSystem.{FileSystem}
use Rattle.image_readings.specs.declared.reading.Finding.{Finding}
use Rattle.image_readings.specs.declared.reading.Finding.TheVariants.{Unreadable, Broken, Volume}
use Rattle.image_readings.specs.declared.reading.Found.{Found}
use Rattle.image_readings.specs.Found.{Stops}
use Rattle.image_readings.specs.Readings.{IsNoVolume, IsToldOf, finding_of, header_place}

-- a walk that stopped, on a device that is honest and has no failure to come
pub walk_stops : (T : Type 0) (format : Meaning) (old new : DeviceState) (error : WalkError)
    → IsTrue old.honest → old.read_failures ≡ Some 0 → OnlyReads (met_device {T = T} (Err error)) old new
    → ((fault : Fault) → error ≡ walks.Fault fault → format.HeaderFaultAt old.store fault) → Stops format old error
walk_stops T format old new (walks.Fault fault) honest never reads header = header fault refl
walk_stops T format old new walks.Device honest never reads header = unit_lacks old new honest never reads
walk_stops T format old new walks.Memory honest never reads header = tt

-- a fault is no volume
no_volume : (file_system : FileSystem) (fault : Fault) (found : Found) → Volume found ≡ finding_of file_system fault → ⊥
no_volume file_system (faults.Geometry place) found is = by_test (place == header_place file_system) is
  where
    by_test : (own : Bool) → Volume found ≡ (if own then Unreadable else Broken) → ⊥
    by_test true same = cc
    by_test false same = cc
no_volume file_system (faults.CatalogLink place) found is = cc
no_volume file_system (faults.DirLink place) found is = cc
no_volume file_system (faults.MapPointer place) found is = cc
no_volume file_system (faults.StorageType place) found is = cc
no_volume file_system (faults.OutOfRange place) found is = cc
no_volume file_system (faults.InSystem place) found is = cc
no_volume file_system (faults.Shared place) found is = cc
no_volume file_system (faults.MarkedFree place) found is = cc

pub told_none : (file_system : FileSystem) (device : DeviceState) (finding : Finding) → IsNoVolume file_system device finding → IsToldOf file_system device finding
told_none file_system device Unreadable none = none
told_none file_system device Broken none = none
told_none file_system device (Volume found) none = elim none [
  | inl fault ↦ absurd (no_volume file_system fault.0 found fault.2)
  | inr lacks ↦ absurd (is_no_volume lacks.1)
]
  where
    is_no_volume : Volume found ≡ Unreadable → ⊥
    is_no_volume is = cc

pub told_if : (file_system : FileSystem) (device : DeviceState) (result : Result Finding AllocError) → IfOk result (IsNoVolume file_system device) → IfOk result (IsToldOf file_system device)
told_if file_system device (Ok finding) none = told_none file_system device finding none
told_if file_system device (Err error) none = tt
