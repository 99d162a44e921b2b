-- What renaming a file leaves of a volume, and why it is refused.
use Rattle.std.specs.Prelude.{◌≡◌, ℕ, Bool, true, false, List, [], ◌∷◌, Result, Ok, Err}
use Rattle.a2_device.specs.Device.{unit_at}
use Rattle.a2_device.specs.declared.fault.WalkError.{WalkError}
use Rattle.a2_device.specs.declared.fault.WalkError.TheVariants as walk
use Rattle.vol_format.specs.Files.{File}
use Rattle.vol_format.specs.Accepted.{IsAccepted}
use Rattle.vol_format.specs.Directory.{Directory, entry_of}
use Rattle.vol_format.specs.Meaning.{Meaning}
use Rattle.file_formats.specs.FileNames.{FileNameView}
use Rattle.file_formats.specs.Files.{FileMeaning, IsFirstNamed}
use Rattle.edit_formats.specs.declared.error.EditError.{EditError}
use Rattle.edit_formats.specs.declared.error.EditError.TheVariants.{Check, NotFound, Name, Exists, Locked, Device, Memory}
use Rattle.edit_formats.specs.Lists.{with_first}
use Rattle.edit_formats.specs.Names.{NameMeaning}
use Rattle.vol_laws.specs.Writes.{Write}

-- the list in which the first file with the name has a new one: in its path and in the bytes of its entry
abbrev pub with_new_name : FileMeaning → NameMeaning → FileNameView → List ℕ → List File → List File
with_new_name files names name new =
    with_first files name (λ (file : File).
    record file { path = names.path new file.path file.bytes; bytes = names.bytes new file.bytes })

-- A file may get the name, no entry beside its own has it, its own among them, and its entry allows it.
pub record IsRenamable (names : NameMeaning) (store : List (List ℕ)) (directory : Directory) (file : ℕ)
    (new : List ℕ) : Type 0 where
  pub name : names.may_have new ≡ true
  pub alone : ¬ names.HasBeside store directory file new
  pub unlocked : names.keeps (entry_of directory file).bytes ≡ false

-- The one write that renames the first file with a name, of an accepted volume: into the entry of that file, which may
-- be renamed.
pub record IsRenameEdit (format : Meaning) (files : FileMeaning) (names : NameMeaning) (store : List (List ℕ))
    (name : FileNameView) (new : List ℕ) (writes : List Write) : Type 0 where
  pub directory : Directory
  pub accepted : IsAccepted format directory store
  pub file : ℕ
  pub first : IsFirstNamed files directory name file
  pub renamable : IsRenamable names store directory file new
  pub are : writes ≡ record {
    place = (entry_of directory file).place;
    unit = names.with_name new (entry_of directory file) (unit_at store (entry_of directory file).place);
  } ∷ []

-- an accepted volume of which the first file with the name is so
pub record HasFirst (format : Meaning) (files : FileMeaning) (store : List (List ℕ)) (name : FileNameView)
    (Is : Directory → ℕ → Type 0) : Type 0 where
  pub directory : Directory
  pub accepted : IsAccepted format directory store
  pub file : ℕ
  pub first : IsFirstNamed files directory name file
  pub is : Is directory file

-- Why the file of an entry is not renamed: no file may have the name; a file may, but an entry beside its own has it;
-- none beside has it, but its entry keeps the name that it has. Each cause says that those before it are not there.
abbrev pub IsNoName : NameMeaning → List ℕ → Type 0
IsNoName names new = names.may_have new ≡ false

abbrev pub IsNameInUse : NameMeaning → List (List ℕ) → Directory → ℕ → List ℕ → Type 0
IsNameInUse names store directory file new = (names.may_have new ≡ true) × names.HasBeside store directory file new

pub record IsNameKept (names : NameMeaning) (store : List (List ℕ)) (directory : Directory) (file : ℕ) (new : List ℕ)
    : Type 0 where
  pub name : names.may_have new ≡ true
  pub alone : ¬ names.HasBeside store directory file new
  pub keeps : names.keeps (entry_of directory file).bytes ≡ true

-- the same of the first file with the name, on an accepted volume
abbrev pub HasFirstUnnamed : Meaning → FileMeaning → NameMeaning → List (List ℕ) → FileNameView → List ℕ → Type 0
HasFirstUnnamed format files names store name new =
    HasFirst format files store name (λ directory file. IsNoName names new)

abbrev pub HasFirstBeside : Meaning → FileMeaning → NameMeaning → List (List ℕ) → FileNameView → List ℕ → Type 0
HasFirstBeside format files names store name new =
    HasFirst format files store name (λ directory file. IsNameInUse names store directory file new)

abbrev pub HasFirstLocked : Meaning → FileMeaning → NameMeaning → List (List ℕ) → FileNameView → List ℕ → Type 0
HasFirstLocked format files names store name new =
    HasFirst format files store name (λ directory file. IsNameKept names store directory file new)

-- what is told of an entry that was asked for by reads of the device
abbrev pub IsAnswer : Type 0 → Result Bool EditError → Type 0
IsAnswer Holds (Ok true) = Holds
IsAnswer Holds (Ok false) = ¬ Holds
IsAnswer Holds (Err Device) = Unit {0}
IsAnswer Holds (Err Memory) = Unit {0}
IsAnswer Holds (Err error) = ⊥

-- what is told of a file that is to be renamed
abbrev pub IsWeighed : {T : Type 0} → NameMeaning → List (List ℕ) → Directory → ℕ → List ℕ → Result T EditError → Type 0
IsWeighed names store directory file new (Ok x) = IsRenamable names store directory file new
IsWeighed names store directory file new (Err Name) = IsNoName names new
IsWeighed names store directory file new (Err Exists) = IsNameInUse names store directory file new
IsWeighed names store directory file new (Err Locked) = IsNameKept names store directory file new
IsWeighed names store directory file new (Err Device) = Unit {0}
IsWeighed names store directory file new (Err Memory) = Unit {0}
IsWeighed names store directory file new (Err error) = ⊥

-- what is told of the first file with a name, which is to be renamed
abbrev pub IsRenameTold : {T : Type 0} → Meaning → FileMeaning → NameMeaning → List (List ℕ) → FileNameView → List ℕ
    → Result T EditError → Type 0
IsRenameTold format files names store name new (Ok x) =
    HasFirst format files store name (λ directory file. IsRenamable names store directory file new)
IsRenameTold format files names store name new (Err Name) = HasFirstUnnamed format files names store name new
IsRenameTold format files names store name new (Err Exists) = HasFirstBeside format files names store name new
IsRenameTold format files names store name new (Err Locked) = HasFirstLocked format files names store name new
IsRenameTold format files names store name new (Err error) = Unit {0}

-- why a file is not renamed: no other refusal is told
abbrev pub IsRenameRefusal : EditError → Type 0
IsRenameRefusal Check = Unit {0}
IsRenameRefusal NotFound = Unit {0}
IsRenameRefusal Name = Unit {0}
IsRenameRefusal Exists = Unit {0}
IsRenameRefusal Locked = Unit {0}
IsRenameRefusal Device = Unit {0}
IsRenameRefusal Memory = Unit {0}
IsRenameRefusal error = ⊥

-- why an entry that is asked for is not told
abbrev pub IsReadRefusal : EditError → Type 0
IsReadRefusal Check = Unit {0}
IsReadRefusal Device = Unit {0}
IsReadRefusal Memory = Unit {0}
IsReadRefusal error = ⊥

-- why the entry of a file that was found is not renamed
abbrev pub IsEntryRefusal : EditError → Type 0
IsEntryRefusal Check = Unit {0}
IsEntryRefusal Name = Unit {0}
IsEntryRefusal Exists = Unit {0}
IsEntryRefusal Locked = Unit {0}
IsEntryRefusal Device = Unit {0}
IsEntryRefusal Memory = Unit {0}
IsEntryRefusal error = ⊥

-- the refusal of a command whose walk over the directories ended early
abbrev pub refusal_of_walk : WalkError → EditError
refusal_of_walk (walk.Fault fault) = Check
refusal_of_walk walk.Device = Device
refusal_of_walk walk.Memory = Memory
