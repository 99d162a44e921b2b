-- Why a volume can't be read.
use Rattle.file_cmds.specs.declared.error.CmdError.{CmdError}
use Rattle.file_cmds.specs.declared.error.CmdError.TheVariants as cmd
use Rattle.volume_extract.specs.declared.error.ExtractError.{ExtractError}
use Rattle.volume_extract.specs.declared.error.ExtractError.TheVariants.{Check, Device, Memory}

abbrev pub refusal_of : CmdError → ExtractError
refusal_of cmd.Check = Check
refusal_of cmd.NotFound = Check
refusal_of cmd.Device = Device
refusal_of cmd.Memory = Memory
