-- What is told of a volume, on a device that was read since.
use Rattle.std.specs.Prelude.{IsTrue}
use Rattle.std.proofs.Common.{subst}
use Rattle.a2_device.specs.Device.{DeviceState}
use Rattle.vol_format.specs.Meaning.{Meaning}
use Rattle.file_cmds.specs.ReadingOn.{ReadsOn}
use Rattle.image_readings.specs.Readings.{Stands}
use Rattle.image_readings.specs.declared.reading.Standing.{Standing}
use Rattle.image_readings.specs.declared.reading.Standing.TheVariants.{Accepted, Refused}

-- what the checker says does not depend on how often the device failed
pub stands_before : (format : Meaning) (old new : DeviceState) (standing : Standing) → IsTrue old.honest → ReadsOn old new → Stands format new standing
    → Stands format old standing
stands_before format old new (Accepted files lost) honest reads stands =
    subst (λ (d : DeviceState). Stands format d (Accepted files lost)) (reads.kept honest) stands
stands_before format old new Refused honest reads stands = subst (λ (d : DeviceState). Stands format d Refused) (reads.kept honest) stands
