-- What is told of a walk that ended early.
use Rattle.std.specs.Prelude.{Bool, true, false, Result, Err}
use Rattle.a2_device.specs.declared.fault.WalkError.{WalkError}
use Rattle.a2_device.specs.declared.fault.WalkError.TheVariants as walk
use Rattle.vol_check.specs.declared.error.CheckError.{CheckError}
use Rattle.vol_check.specs.declared.error.CheckError.TheVariants as check
use Rattle.file_cmds.specs.declared.error.CmdError.{CmdError}
use Rattle.file_cmds.specs.declared.error.CmdError.TheVariants.{Check, Device, Memory}

-- the refusal of a command whose walk ended early
abbrev pub refusal_of : WalkError → CmdError
refusal_of (walk.Fault fault) = Check
refusal_of walk.Device = Device
refusal_of walk.Memory = Memory

abbrev pub refusal_of_check : {A : Type 0} → CheckError A → CmdError
refusal_of_check (check.Faults faults) = Check
refusal_of_check check.Device = Device
refusal_of_check check.Memory = Memory

-- whether a command told a failure of the device
abbrev pub told_device : {T : Type 0} → Result T CmdError → Bool
told_device (Err Device) = true
told_device result = false
