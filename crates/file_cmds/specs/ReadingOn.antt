-- Readings that go on where a unit can't be read.
use Rattle.std.specs.Prelude.{◌≡◌, ◌≤◌, ℕ, List, Some, Contains, IsTrue}
use Rattle.a2_device.specs.Device.{DeviceState, FailsRead, IsSameDevice}
use Rattle.a2_device.specs.declared.part.Part.{Part}
use Rattle.vol_format.specs.Directory.{Directory}
use Rattle.vol_format.specs.Meaning.{Meaning}
use Rattle.vol_format.specs.Reach.{Reach}

-- Calls that read alone, some of which may have failed: the failures of a device are counted and used up, and nothing
-- else of it changes.
pub record ReadsOn (old new : DeviceState) : Type 0 where
  pub same : IsSameDevice old new
  pub faults : old.faults ≤ new.faults
  pub kept : IsTrue old.honest → new ≡ record old { faults = new.faults; read_failures = new.read_failures }
  pub quiet : IsTrue old.honest → old.read_failures ≡ Some 0 → new.read_failures ≡ Some 0

-- among such calls there was a read of this place that failed
pub record FailedAt (place : ℕ) (old new : DeviceState) : Type 0 where
  pub before : DeviceState
  pub after : DeviceState
  pub reached : ReadsOn old before
  pub failed : FailsRead place before after
  pub left : ReadsOn after new

-- among such calls there was a read that failed
abbrev pub FailedBetween : DeviceState → DeviceState → Type 0
FailedBetween old new = (place : ℕ) × FailedAt place old new

-- among such calls there was a read of the unit of a part of this file that failed
pub record FailedInFile (format : Meaning) (directory : Directory) (old new : DeviceState) (file : ℕ) : Type 0 where
  pub part : Part
  pub reached : Reach format directory old.store part
  pub in_file : part.file ≡ file
  pub failed : FailedAt part.place old new

-- a read of the unit of one of these parts failed
pub record FailsAmong (parts : List Part) (old new : DeviceState) : Type 0 where
  pub part : Part
  pub given : Contains parts part
  pub failed : FailsRead part.place old new
