-- Making a directory on a ProDOS volume: the writes, what they leave of the volume, and why it is refused.
use Rattle.std.specs.Prelude.{◌≡◌, ◌⊎◌, ◌↔◌, ◌<◌, ◌≤◌, ℕ, false, List, [], ◌∷◌, length}
use Rattle.a2_device.specs.Device.{unit_at}
use Rattle.vol_format.specs.Accepted.{IsAccepted}
use Rattle.vol_format.specs.Directory.{Directory, Listed, entries, remapped}
use Rattle.vol_format.specs.Files.{File, HasFiles}
use Rattle.pro_format.specs.Pro.{pro_meaning}
use Rattle.vol_laws.specs.Deleted.{IsLostOn}
use Rattle.vol_laws.specs.Saved.{HasNothingSaved}
use Rattle.vol_laws.specs.Writes.{Write}
use Rattle.edit_formats.specs.declared.error.EditError.{EditError}
use Rattle.edit_formats.specs.declared.error.EditError.TheVariants.{Check, NotFound, Name, Exists, DirFull, VolumeFull, Device, Memory}
use Rattle.edit_formats.specs.declared.target.Slot.{Slot}
use Rattle.edit_formats.specs.declared.target.Target.TheVariants.{Full, At}
use Rattle.edit_formats.specs.ProSaves.{pro_saves, IsProTarget}
use Rattle.file_edits.specs.Places.{free_places, first_places}
use Rattle.file_edits.specs.Saved.{HasNoDirectory, HasNoName, HasNameInUse, HasTarget}
use Rattle.file_edits.specs.Making.{Making, making_writes, IsNewEntry}
use Rattle.file_edits.specs.Leaf.{IsEmptyDirectory}
use Rattle.file_edits.specs.NewDirectory.{directory_block}
use Rattle.file_edits.specs.WithDirectory.{with_directory}

-- The writes that make a directory on an accepted volume: its block at the first free place, and its entry in the first
-- free slot of the directory to which the path leads.
pub record IsMaking (making : Making) (writes : List Write) : Type 0 where
  pub directory : Directory
  pub accepted : IsAccepted (pro_meaning making.reserved) directory making.store
  pub slot : Slot
  pub target : IsProTarget making.store making.path (At slot)
  pub place : ℕ
  pub first : first_places directory 1 ≡ place ∷ []
  pub dated : length making.date.0 ≡ 4
  pub are : writes ≡ making_writes making directory slot place
  pub few : length writes < 18446744073709551616

-- The path led to a free slot of an accepted volume, and the first free place was this. The volume is accepted, and it
-- says what it said, with the entry of the new directory more, whose place is marked used and is the system's:
-- `with_directory`. Its block is that of a new directory, which has no entry. The list of files is that of before, and
-- the same places are lost.
pub record HasMade (making : Making) (new : List (List ℕ)) : Type 0 where
  pub directory : Directory
  pub accepted : IsAccepted (pro_meaning making.reserved) directory making.store
  pub slot : Slot
  pub target : IsProTarget making.store making.path (At slot)
  pub place : ℕ
  pub first : first_places directory 1 ≡ place ∷ []
  pub at : ℕ
  pub within : at ≤ entries directory
  pub entry : Listed
  pub is : IsNewEntry making slot place entry
  pub made : IsAccepted (pro_meaning making.reserved)
      (with_directory (remapped directory place false) at entry place) new
  pub block : unit_at new place ≡ directory_block making.path slot making.date
  pub empty : IsEmptyDirectory new place
  pub files : (all : List File) → HasFiles (pro_meaning making.reserved) making.store all
      → HasFiles (pro_meaning making.reserved) new all
  pub lost : (other : ℕ) → IsLostOn (pro_meaning making.reserved) new other
      ↔ IsLostOn (pro_meaning making.reserved) making.store other

-- The files of an accepted volume are those of before; at worst the place that the new directory was to take is lost.
pub record HasNotMade (making : Making) (new : List (List ℕ)) : Type 0 where
  pub directory : Directory
  pub accepted : IsAccepted (pro_meaning making.reserved) directory making.store
  pub unmade : HasNothingSaved (pro_meaning making.reserved) (first_places directory 1) making.store new

-- the same store, or one with the files of before, or one with the new directory
abbrev pub IsOldOrMade : Making → List (List ℕ) → Type 0
IsOldOrMade making new = (new ≡ making.store) ⊎ HasNotMade making new ⊎ HasMade making new

-- there is a directory in which no entry has the name, but it has no free slot
abbrev pub HasFullParent : Making → Type 0
HasFullParent making = HasTarget (pro_meaning making.reserved) pro_saves making.store making.path
    (λ directory target. target ≡ Full)

-- there is a free slot, but no place is free
abbrev pub HasNoPlace : Making → Type 0
HasNoPlace making =
    HasTarget (pro_meaning making.reserved) pro_saves making.store making.path
    (λ directory target. ((slot : Slot) × (target ≡ At slot)) × (free_places directory ≡ []))

-- what each cause says
abbrev pub IsTold : Making → EditError → Type 0
IsTold making NotFound = HasNoDirectory (pro_meaning making.reserved) pro_saves making.store making.path
IsTold making Name = HasNoName (pro_meaning making.reserved) pro_saves making.store making.path
IsTold making Exists = HasNameInUse (pro_meaning making.reserved) pro_saves making.store making.path
IsTold making DirFull = HasFullParent making
IsTold making VolumeFull = HasNoPlace making
IsTold making error = Unit {0}

-- why a directory is not made: no other refusal is told
abbrev pub IsMakingRefusal : EditError → Type 0
IsMakingRefusal Check = Unit {0}
IsMakingRefusal NotFound = Unit {0}
IsMakingRefusal Name = Unit {0}
IsMakingRefusal Exists = Unit {0}
IsMakingRefusal DirFull = Unit {0}
IsMakingRefusal VolumeFull = Unit {0}
IsMakingRefusal Device = Unit {0}
IsMakingRefusal Memory = Unit {0}
IsMakingRefusal error = ⊥
