-- Of which unit a read failed.
use Rattle.std.specs.Prelude.{◌≡◌, ℕ}
use Rattle.a2_device.specs.Device.{DeviceState, FailsRead}
use Rattle.a2_device.specs.declared.part.Part.{Part}
use Rattle.vol_format.specs.Directory.{Directory}
use Rattle.vol_format.specs.Meaning.{Meaning}
use Rattle.vol_format.specs.Reach.{Reach}
use Rattle.vol_check.specs.declared.walk.Pending.{Pending}
use Rattle.vol_check.specs.declared.walk.Pending.TheVariants.{Visit, Tell}

-- a read of the unit of a part of this file failed
pub record FailsInFile (format : Meaning) (directory : Directory) (old new : DeviceState) (file : ℕ) : Type 0 where
  pub part : Part
  pub reached : Reach format directory old.store part
  pub in_file : part.file ≡ file
  pub failed : FailsRead part.place old new

-- the read for what is next failed
abbrev pub FailsNext : Pending → DeviceState → DeviceState → Type 0
FailsNext (Visit part) old new = FailsRead part.place old new
FailsNext (Tell fault) old new = ⊥
