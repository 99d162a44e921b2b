-- Why one of two volumes can't be read.
use Rattle.file_cmds.specs.declared.error.CmdError.{CmdError}
use Rattle.file_cmds.specs.declared.error.CmdError.TheVariants as cmd
use Rattle.volume_compare.specs.declared.error.CompareError.{CompareError}
use Rattle.volume_compare.specs.declared.error.CompareError.TheVariants.{Check, Device, Memory}
use Rattle.volume_compare.specs.declared.finding.Side.{Side}

abbrev pub refusal_of : Side → CmdError → CompareError
refusal_of side cmd.Check = Check side
refusal_of side cmd.NotFound = Check side
refusal_of side cmd.Device = Device side
refusal_of side cmd.Memory = Memory
