-- The files of a volume as its owner sees them: neither a place nor the number of an entry is in them.
use Rattle.std.specs.Prelude.{◌≡◌, ◌↔◌, ◌<◌, ℕ, not, List, filter, AllPairs, Contains}
use Rattle.std.specs.List.{AllZip, range_with_len}
use Rattle.a2_device.specs.Device.{unit_at}
use Rattle.a2_device.specs.declared.part.Part.{Part}
use Rattle.a2_device.specs.declared.part.PartKind.TheVariants.{Body}
use Rattle.vol_format.specs.Accepted.{IsAccepted}
use Rattle.vol_format.specs.Directory.{Directory, entries, entry_of, is_directory, IsSameFrame}
use Rattle.vol_format.specs.Meaning.{Meaning}
use Rattle.vol_format.specs.Reach.{Reach, SameContents}

-- a unit of a file's body, and its number
pub record Stored : Type 0 where
  pub number : ℕ
  pub unit : List ℕ

-- A file: its path, the bytes of its entry without those of its pointer, and its body, as the units that are stored of
-- it. Units that are not stored, as the holes of a sparse file, are not in the list.
pub record File : Type 0 where
  pub path : List ℕ
  pub bytes : List ℕ
  pub body : List Stored

-- the file of an entry has a part of its body of this number, and this unit stands there
pub record IsStored (format : Meaning) (directory : Directory) (store : List (List ℕ)) (entry : ℕ)
    (stored : Stored) : Type 0 where
  pub part : Part
  pub reached : Reach format directory store part
  pub in_file : part.file ≡ entry
  pub of_body : part.kind ≡ Body
  pub numbered : part.number ≡ stored.number
  pub stands : unit_at store part.place ≡ stored.unit

-- the file of an entry; the units of its body stand in rising order of their numbers
pub record IsFile (format : Meaning) (directory : Directory) (store : List (List ℕ)) (entry : ℕ)
    (file : File) : Type 0 where
  pub path : file.path ≡ (entry_of directory entry).path
  pub bytes : file.bytes ≡ (entry_of directory entry).bytes
  pub members : (stored : Stored) → Contains file.body stored ↔ IsStored format directory store entry stored
  pub rising : AllPairs (λ (stored later : Stored). stored.number < later.number) file.body

-- The numbers of the entries that are files', in directory order. Entries are counted with those of directories among
-- them.
abbrev pub file_numbers : Directory → List ℕ
file_numbers directory = filter (λ entry. not (is_directory (entry_of directory entry)))
    (range_with_len 0 (entries directory))

-- the files of the entries that are files', one for each and in directory order
abbrev pub IsFiles : Meaning → Directory → List (List ℕ) → List File → Type 0
IsFiles format directory store files = AllZip (IsFile format directory store) (file_numbers directory) files

-- a store is a volume, and these are its files
pub record HasFiles (format : Meaning) (store : List (List ℕ)) (files : List File) : Type 0 where
  pub directory : Directory
  pub accepted : IsAccepted format directory store
  pub are : IsFiles format directory store files

-- The files of two stores have the same parts with the same contents, and what the directories say differs at most in
-- where entries point to and in what is marked free.
abbrev pub KeepsFiles : Meaning → List (List ℕ) → List (List ℕ) → Type 0
KeepsFiles format old new =
    (before after : Directory) → format.Describes old before → format.Describes new after
    → SameContents format before after old new × IsSameFrame before after
