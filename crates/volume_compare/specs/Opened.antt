-- Two volumes of which the files are read.
use Rattle.std.specs.Prelude.{◌≡◌}
use Rattle.a2_device.specs.Device.{DeviceState}
use Rattle.vol_format.specs.Directory.{Directory}
use Rattle.vol_format.specs.Meaning.{Meaning}
use Rattle.file_cmds.specs.EachFile.{AreFilesOf}
use Rattle.volume_compare.specs.declared.looking.Readers.{Readers}

-- what reads the files of two volumes on their devices
pub record AreReaders (format : Meaning) (first second : Directory) (device other : DeviceState)
    (readers : Readers) : Type 0 where
  pub places : first.places ≡ device.places
  pub other_places : second.places ≡ other.places
  pub of_first : AreFilesOf format first device readers.first
  pub of_second : AreFilesOf format second other readers.second
