-- What saving a file leaves of a volume, and why it is refused.
use Rattle.std.specs.Prelude.{◌≡◌, ◌⊎◌, ◌<◌, ◌≤◌, ℕ, Bool, true, false, List, length, slice_index, Result, Ok, Err}
use Rattle.vol_format.specs.Accepted.{IsAccepted}
use Rattle.vol_format.specs.Directory.{Directory, Listed}
use Rattle.vol_format.specs.Meaning.{Meaning}
use Rattle.vol_format.specs.Files.{File}
use Rattle.vol_laws.specs.Built.{Planned}
use Rattle.vol_laws.specs.Writes.{Write}
use Rattle.vol_laws.specs.Saved.{HasFileSaved, HasNothingSaved}
use Rattle.vol_laws.specs.Saving.{IsSaving}
use Rattle.edit_formats.specs.Placed.{HasPlaced, HasBodyUnits, stored_units}
use Rattle.edit_formats.specs.declared.error.EditError.{EditError}
use Rattle.edit_formats.specs.declared.error.EditError.TheVariants.{Check, NotFound, Name, Exists, TooLong, DirFull, VolumeFull, Device, Memory}
use Rattle.edit_formats.specs.declared.target.Attributes.{Attributes}
use Rattle.edit_formats.specs.declared.target.Extent.{Extent}
use Rattle.edit_formats.specs.declared.target.Slot.{Slot}
use Rattle.edit_formats.specs.declared.target.Target.{Target}
use Rattle.edit_formats.specs.declared.target.Target.TheVariants.{NoDirectory, NoName, InUse, Full, At}
use Rattle.edit_formats.specs.Saves.{SaveMeaning, HasTables}
use Rattle.file_edits.specs.Given.{given_units}
use Rattle.file_edits.specs.Places.{first_places, free_places}

-- the places that a new file takes: the first free ones, one for each of its parts
abbrev pub new_places : SaveMeaning → Directory → List Bool → List ℕ
new_places saves directory stored = first_places directory (length (saves.parts stored))

-- its size, and where it begins
abbrev pub extent_of : SaveMeaning → Directory → List Bool → Extent
extent_of saves directory stored = record {
  units = length stored;
  parts = length (saves.parts stored);
  first = slice_index (new_places saves directory stored) 0;
}

-- the units that are kept of it, as they are given
abbrev pub kept_units : ℕ → SaveMeaning → List Bool → List ℕ → List (List ℕ)
kept_units size saves stored text = given_units size stored text (length (saves.kept stored))

-- The file of an entry: its path and its bytes are the entry's, and its body are the units that are stored.
abbrev pub saved_file : ℕ → SaveMeaning → List Bool → List ℕ → Listed → File
saved_file size saves stored text entry = record {
  path = entry.path;
  bytes = entry.bytes;
  body = stored_units (saves.kept stored) (kept_units size saves stored text);
}

-- The writes that save a file to an accepted volume: its parts at the first free places, each table with its unit and
-- each unit of the body as it is given, and its entry in the first free slot of its directory, byte for byte as the
-- format has it. The writes are kept in memory until the first is made, and there are fewer of them than a device can
-- count.
pub record IsSaveEdit (format : Meaning) (saves : SaveMeaning) (store : List (List ℕ)) (path : List ℕ)
    (attributes : Attributes) (stored : List Bool) (text : List ℕ) (writes : List Write) : Type 0 where
  pub directory : Directory
  pub accepted : IsAccepted format directory store
  pub slot : Slot
  pub target : saves.IsTarget store path (At slot)
  pub short : saves.too_long attributes.eof (length stored) ≡ false
  pub enough : length (saves.parts stored) ≤ length (free_places directory)
  pub at : ℕ
  pub entry : Listed
  pub is : saves.IsEntry store path slot attributes (extent_of saves directory stored) at entry
  pub planned : List Planned
  pub placed : HasPlaced at (saves.parts stored) (new_places saves directory stored) planned
  pub tables : HasTables saves (saves.parts stored) (new_places saves directory stored) planned
  pub bodies : HasBodyUnits (saves.parts stored) (kept_units format.unit_size saves stored text) planned
  pub saving : IsSaving format directory at entry planned store writes
  pub enters : saving.system ≡ saves.entering store path slot attributes (extent_of saves directory stored)
  pub few : length writes < 18446744073709551616

-- The path led to a free slot of an accepted volume, and the file is saved there: the files are those of before and
-- this one, and the same places are lost.
pub record HasSaved (format : Meaning) (saves : SaveMeaning) (path : List ℕ) (attributes : Attributes)
    (stored : List Bool) (text : List ℕ) (old new : List (List ℕ)) : Type 0 where
  pub directory : Directory
  pub accepted : IsAccepted format directory old
  pub slot : Slot
  pub target : saves.IsTarget old path (At slot)
  pub at : ℕ
  pub entry : Listed
  pub is : saves.IsEntry old path slot attributes (extent_of saves directory stored) at entry
  pub saved : HasFileSaved format directory at (saved_file format.unit_size saves stored text entry) old new

-- The files of an accepted volume are those of before; at worst the places that the new file was to take are lost.
pub record HasNotSaved (format : Meaning) (saves : SaveMeaning) (stored : List Bool)
    (old new : List (List ℕ)) : Type 0 where
  pub directory : Directory
  pub accepted : IsAccepted format directory old
  pub unsaved : HasNothingSaved format (new_places saves directory stored) old new

-- the same store, or one with the files of before, or one with the new file
abbrev pub IsOldOrSaved : Meaning → SaveMeaning → List ℕ → Attributes → List Bool → List ℕ → List (List ℕ)
    → List (List ℕ) → Type 0
IsOldOrSaved format saves path attributes stored text old new =
    (new ≡ old) ⊎ HasNotSaved format saves stored old new ⊎ HasSaved format saves path attributes stored text old new

-- the path of a new file leads to this, on an accepted volume
pub record HasTarget (format : Meaning) (saves : SaveMeaning) (store : List (List ℕ)) (path : List ℕ)
    (Is : Directory → Target → Type 0) : Type 0 where
  pub directory : Directory
  pub accepted : IsAccepted format directory store
  pub target : Target
  pub leads : saves.IsTarget store path target
  pub is : Is directory target

-- a directory in which no entry has the name
abbrev pub IsVacant : Target → Type 0
IsVacant Full = Unit {0}
IsVacant (At slot) = Unit {0}
IsVacant target = ⊥

-- why a file is not saved: no such directory, no such name, a name in use
abbrev pub HasNoDirectory : Meaning → SaveMeaning → List (List ℕ) → List ℕ → Type 0
HasNoDirectory format saves store path = HasTarget format saves store path (λ directory target. target ≡ NoDirectory)

abbrev pub HasNoName : Meaning → SaveMeaning → List (List ℕ) → List ℕ → Type 0
HasNoName format saves store path = HasTarget format saves store path (λ directory target. target ≡ NoName)

abbrev pub HasNameInUse : Meaning → SaveMeaning → List (List ℕ) → List ℕ → Type 0
HasNameInUse format saves store path = HasTarget format saves store path (λ directory target. target ≡ InUse)

-- the name can be entered, but the file is longer than a file can be
abbrev pub IsTooLong : Meaning → SaveMeaning → List (List ℕ) → List ℕ → Attributes → List Bool → Type 0
IsTooLong format saves store path attributes stored =
    HasTarget format saves store path
    (λ directory target. IsVacant target × (saves.too_long attributes.eof (length stored) ≡ true))

-- the file is not too long, but its directory has no free slot
abbrev pub HasFullDirectory : Meaning → SaveMeaning → List (List ℕ) → List ℕ → Attributes → List Bool → Type 0
HasFullDirectory format saves store path attributes stored =
    HasTarget format saves store path
    (λ directory target. (target ≡ Full) × (saves.too_long attributes.eof (length stored) ≡ false))

-- there is a free slot, but fewer places are free than the file has parts
abbrev pub HasFewPlaces : Meaning → SaveMeaning → List (List ℕ) → List ℕ → Attributes → List Bool → Type 0
HasFewPlaces format saves store path attributes stored =
    HasTarget format saves store path
    (λ directory target. ((slot : Slot) × (target ≡ At slot)) × (saves.too_long attributes.eof (length stored) ≡ false)
    × (length (free_places directory) < length (saves.parts stored)))

-- what is told of a file that is to be saved
abbrev pub IsSaveTold : {T : Type 0} → Meaning → SaveMeaning → List (List ℕ) → List ℕ → Attributes → List Bool
    → Result T EditError → Type 0
IsSaveTold format saves store path attributes stored (Ok x) = Unit {0}
IsSaveTold format saves store path attributes stored (Err NotFound) = HasNoDirectory format saves store path
IsSaveTold format saves store path attributes stored (Err Name) = HasNoName format saves store path
IsSaveTold format saves store path attributes stored (Err Exists) = HasNameInUse format saves store path
IsSaveTold format saves store path attributes stored (Err TooLong) = IsTooLong format saves store path attributes stored
IsSaveTold format saves store path attributes stored (Err DirFull) =
    HasFullDirectory format saves store path attributes stored
IsSaveTold format saves store path attributes stored (Err VolumeFull) =
    HasFewPlaces format saves store path attributes stored
IsSaveTold format saves store path attributes stored (Err error) = Unit {0}

-- why a file is not saved: no other refusal is told
abbrev pub IsSaveRefusal : EditError → Type 0
IsSaveRefusal Check = Unit {0}
IsSaveRefusal NotFound = Unit {0}
IsSaveRefusal Name = Unit {0}
IsSaveRefusal Exists = Unit {0}
IsSaveRefusal TooLong = Unit {0}
IsSaveRefusal DirFull = Unit {0}
IsSaveRefusal VolumeFull = Unit {0}
IsSaveRefusal Device = Unit {0}
IsSaveRefusal Memory = Unit {0}
IsSaveRefusal error = ⊥
