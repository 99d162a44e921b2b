-- When an opening is refused.
use Rattle.std.specs.Prelude.{◌≡◌, ◌⊎◌, ◌<◌, ℕ, Bool, true, false, Result, Err, List, [], length}
use Rattle.move_plan.specs.declared.answer.PlanError.{PlanError}
use Rattle.move_plan.specs.declared.answer.PlanError.TheVariants.{NoFreePlace as NoPlan, Memory as PlanMemory}
use Rattle.move_plan.specs.Planning.{LacksFreePlace}
use Rattle.vol_format.specs.Accepted.{IsAccepted}
use Rattle.vol_format.specs.Directory.{Directory}
use Rattle.vol_format.specs.Meaning.{Meaning}
use Rattle.vol_format.specs.Reach.{IsPartsOf}
use Rattle.vol_check.specs.Answer.{AreFaults}
use Rattle.vol_check.specs.Told.{Told, IsToldOf}
use Rattle.vol_check.specs.declared.error.CheckError.{CheckError}
use Rattle.vol_check.specs.declared.error.CheckError.TheVariants.{Faults as CheckFaults, Device as CheckDevice, Memory as CheckMemory}
use Rattle.vol_mover.specs.declared.error.OpenError.{OpenError}
use Rattle.vol_mover.specs.declared.error.OpenError.TheVariants.{Check, Lost, NoFreePlace, Device, Memory}
use Rattle.vol_mover.specs.declared.opening.Options.{Options}

abbrev pub of_check : {A : Type 0} → CheckError A → OpenError A
of_check (CheckFaults faults) = Check faults
of_check CheckDevice = Device
of_check CheckMemory = Memory

abbrev pub of_plan : {A : Type 0} → PlanError → OpenError A
of_plan NoPlan = NoFreePlace
of_plan PlanMemory = Memory

-- whether an opening ended by a failure of the device
abbrev pub is_device_error : {T A : Type 0} → Result T (OpenError A) → Bool
is_device_error (Err Device) = true
is_device_error result = false

-- Of an accepted volume: `Lost` tells how many places are lost, where there are some and they are not reclaimed;
-- `NoFreePlace` is told where none is, or they are reclaimed, and some part is misplaced and each place has one.
abbrev pub RefusesTold : {A : Type 0} → Options → Told → OpenError A → Type 0
RefusesTold options told (Check faults) = ⊥
RefusesTold options told (Lost count) = (options.reclaim ≡ false) × (count ≡ length told.lost) × (0 < count)
RefusesTold options told NoFreePlace = ((options.reclaim ≡ true) ⊎ (told.lost ≡ [])) × LacksFreePlace told.layout
RefusesTold options told Device = ⊥
RefusesTold options told Memory = Unit {0}

-- the store has an accepted volume of which a checker tells this, and the opening is refused for it
pub record RefusesAccepted {A : Type 0} (format : Meaning) (store : List (List ℕ)) (options : Options)
    (error : OpenError A) : Type 0 where
  pub directory : Directory
  pub told : Told
  pub accepted : IsAccepted format directory store
  pub parts : IsPartsOf format directory store told.parts
  pub is_told : IsToldOf directory told
  pub refuses : RefusesTold options told error

-- A volume that is not accepted is refused with its faults.
abbrev pub IsRefusal : {A : Type 0} → Meaning → List (List ℕ) → Options → OpenError A → Type 0
IsRefusal format store options (Check list) = AreFaults format store list.faults
IsRefusal format store options (Lost count) = RefusesAccepted {A = Unit {0}} format store options (Lost count)
IsRefusal format store options NoFreePlace = RefusesAccepted {A = Unit {0}} format store options NoFreePlace
IsRefusal format store options error = Unit {0}
