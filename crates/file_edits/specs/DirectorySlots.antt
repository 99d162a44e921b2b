-- The slot and the place that a new directory gets, or why it gets none.
use Rattle.std.specs.Prelude.{ℕ, List, Result, Ok, Err}
use Rattle.edit_formats.specs.declared.error.EditError.{EditError}
use Rattle.edit_formats.specs.declared.error.EditError.TheVariants.{Check, NotFound, Name, Exists, DirFull, VolumeFull, Device, Memory}
use Rattle.edit_formats.specs.declared.target.Slot.{Slot}
use Rattle.edit_formats.specs.declared.target.Target.{Target}
use Rattle.edit_formats.specs.declared.target.Target.TheVariants.{NoDirectory, NoName, InUse, Full, At}
use Rattle.edit_formats.specs.Saves.{SaveMeaning}

-- what is told of the slot to which the path leads
abbrev pub IsSlotTold : SaveMeaning → List (List ℕ) → List ℕ → Result Slot EditError → Type 0
IsSlotTold saves store path (Ok slot) = saves.IsTarget store path (At slot)
IsSlotTold saves store path (Err NotFound) = saves.IsTarget store path NoDirectory
IsSlotTold saves store path (Err Name) = saves.IsTarget store path NoName
IsSlotTold saves store path (Err Exists) = saves.IsTarget store path InUse
IsSlotTold saves store path (Err DirFull) = saves.IsTarget store path Full
IsSlotTold saves store path (Err error) = Unit {0}

abbrev pub IsSlotRefusal : EditError → Type 0
IsSlotRefusal Check = Unit {0}
IsSlotRefusal NotFound = Unit {0}
IsSlotRefusal Name = Unit {0}
IsSlotRefusal Exists = Unit {0}
IsSlotRefusal DirFull = Unit {0}
IsSlotRefusal Device = Unit {0}
IsSlotRefusal Memory = Unit {0}
IsSlotRefusal error = ⊥

-- the slot that a path leads to
abbrev pub slot_or_refusal : Target → Result Slot EditError
slot_or_refusal NoDirectory = Err NotFound
slot_or_refusal NoName = Err Name
slot_or_refusal InUse = Err Exists
slot_or_refusal Full = Err DirFull
slot_or_refusal (At slot) = Ok slot

-- why it gets no place
abbrev pub IsPlaceRefusal : EditError → Type 0
IsPlaceRefusal VolumeFull = Unit {0}
IsPlaceRefusal Device = Unit {0}
IsPlaceRefusal Memory = Unit {0}
IsPlaceRefusal error = ⊥
