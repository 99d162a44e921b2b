-- What is told of a command that was refused.
use Rattle.std.specs.Prelude.{Bool, true, false, Result, Err}
use Rattle.vol_check.specs.declared.error.CheckError.{CheckError}
use Rattle.vol_check.specs.declared.error.CheckError.TheVariants as check
use Rattle.edit_formats.specs.declared.error.EditError.{EditError}
use Rattle.edit_formats.specs.declared.error.EditError.TheVariants.{Check, NotFound, Device, Memory}

-- the refusal of a command whose check ended early
abbrev pub refusal_of_check : {A : Type 0} → CheckError A → EditError
refusal_of_check (check.Faults faults) = Check
refusal_of_check check.Device = Device
refusal_of_check check.Memory = Memory

-- whether a command told a failure of the device
abbrev pub told_device : {T : Type 0} → Result T EditError → Bool
told_device (Err Device) = true
told_device result = false

-- why a file is not locked or unlocked: no other refusal is told
abbrev pub IsLockRefusal : EditError → Type 0
IsLockRefusal Check = Unit {0}
IsLockRefusal NotFound = Unit {0}
IsLockRefusal Device = Unit {0}
IsLockRefusal Memory = Unit {0}
IsLockRefusal error = ⊥

-- why a write is not prepared
abbrev pub IsPrepareRefusal : EditError → Type 0
IsPrepareRefusal Device = Unit {0}
IsPrepareRefusal Memory = Unit {0}
IsPrepareRefusal error = ⊥
