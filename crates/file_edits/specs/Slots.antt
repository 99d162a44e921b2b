-- The free slot of a new file, or why it gets none.
use Rattle.std.specs.Prelude.{◌≡◌, ℕ, Bool, true, false, List, length, if◌then◌else◌, Result, Ok, Err}
use Rattle.edit_formats.specs.declared.error.EditError.{EditError}
use Rattle.edit_formats.specs.declared.error.EditError.TheVariants.{Check, NotFound, Name, Exists, TooLong, DirFull, Device, Memory}
use Rattle.edit_formats.specs.declared.target.Slot.{Slot}
use Rattle.edit_formats.specs.declared.target.Target.{Target}
use Rattle.edit_formats.specs.declared.target.Target.TheVariants.{NoDirectory, NoName, InUse, Full, At}
use Rattle.edit_formats.specs.Saves.{SaveMeaning}
use Rattle.file_edits.specs.declared.given.NewFile.{NewFile}
use Rattle.file_edits.specs.Saved.{IsVacant}

-- The slot that a path leads to, for a file that is not too long. A name that can't be entered is told before the
-- length, and the length before a directory that is full.
abbrev pub slot_or_refusal : Target → Bool → Result Slot EditError
slot_or_refusal NoDirectory long = Err NotFound
slot_or_refusal NoName long = Err Name
slot_or_refusal InUse long = Err Exists
slot_or_refusal Full long = if long then Err TooLong else Err DirFull
slot_or_refusal (At slot) long = if long then Err TooLong else Ok slot

-- a file that can be entered: it may get its name, and it is not longer than a file can be
pub record IsEnterable (saves : SaveMeaning) (file : NewFile) : Type 0 where
  pub name : saves.may_have file.path.now ≡ true
  pub short : saves.too_long file.attributes.now.eof (length file.stored.now) ≡ false

-- what is told of the path and the length
abbrev pub IsSlotTold : SaveMeaning → List (List ℕ) → NewFile → Result Slot EditError → Type 0
IsSlotTold saves store file (Ok slot) = saves.IsTarget store file.path.now (At slot)
IsSlotTold saves store file (Err NotFound) = saves.IsTarget store file.path.now NoDirectory
IsSlotTold saves store file (Err Name) = saves.IsTarget store file.path.now NoName
IsSlotTold saves store file (Err Exists) = saves.IsTarget store file.path.now InUse
IsSlotTold saves store file (Err TooLong) =
    ((target : Target) × saves.IsTarget store file.path.now target × IsVacant target)
    × (saves.too_long file.attributes.now.eof (length file.stored.now) ≡ true)
IsSlotTold saves store file (Err DirFull) =
    saves.IsTarget store file.path.now Full × (saves.too_long file.attributes.now.eof (length file.stored.now) ≡ false)
IsSlotTold saves store file (Err error) = Unit {0}

abbrev pub IsSlotRefusal : EditError → Type 0
IsSlotRefusal Check = Unit {0}
IsSlotRefusal NotFound = Unit {0}
IsSlotRefusal Name = Unit {0}
IsSlotRefusal Exists = Unit {0}
IsSlotRefusal TooLong = Unit {0}
IsSlotRefusal DirFull = Unit {0}
IsSlotRefusal Device = Unit {0}
IsSlotRefusal Memory = Unit {0}
IsSlotRefusal error = ⊥
