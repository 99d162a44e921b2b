-- What deleting a file leaves of a volume, and why it is refused.
use Rattle.std.specs.Prelude.{◌≡◌, ◌⊎◌, ◌↔◌, ◌<◌, ℕ, ◌==◌, true, false, List, length, map, filter, All, Contains, Result, Ok, Err}
use Rattle.a2_device.specs.declared.part.Part.{Part}
use Rattle.vol_format.specs.Accepted.{IsAccepted}
use Rattle.vol_format.specs.Directory.{Directory, entry_of, root_of}
use Rattle.vol_format.specs.Meaning.{Meaning}
use Rattle.vol_laws.specs.Entered.{IsTaken}
use Rattle.vol_laws.specs.Deleted.{HasEntryErased}
use Rattle.vol_laws.specs.Deletion.{IsDeletion}
use Rattle.vol_laws.specs.Writes.{Write}
use Rattle.file_formats.specs.FileNames.{FileNameView}
use Rattle.file_formats.specs.Files.{FileMeaning, IsFirstNamed}
use Rattle.edit_formats.specs.declared.error.EditError.{EditError}
use Rattle.edit_formats.specs.declared.error.EditError.TheVariants.{Check, NotFound, Locked, Device, Memory}
use Rattle.edit_formats.specs.Erasing.{EraseMeaning}
use Rattle.edit_formats.specs.Renamed.{HasFirst}

-- The writes that delete the first file with a name, of an accepted volume, where its entry lets it be deleted. Those
-- to the directory, which come first, erase its entry byte for byte as the format has it. The writes are kept in memory
-- until the first is made, and there are fewer of them than a device can count.
pub record IsDeleteEdit (format : Meaning) (files : FileMeaning) (erasures : EraseMeaning) (store : List (List ℕ))
    (name : FileNameView) (writes : List Write) : Type 0 where
  pub directory : Directory
  pub accepted : IsAccepted format directory store
  pub file : ℕ
  pub first : IsFirstNamed files directory name file
  pub unprotected : erasures.protects (entry_of directory file).bytes ≡ false
  pub deletion : IsDeletion format directory file store writes
  pub erases : erasures.Erases store directory file deletion.system
  pub few : length writes < 18446744073709551616

-- The first file with a name is no longer among the files; at worst its places are lost.
pub record IsErasedOf (format : Meaning) (files : FileMeaning) (name : FileNameView)
    (old new : List (List ℕ)) : Type 0 where
  pub directory : Directory
  pub accepted : IsAccepted format directory old
  pub file : ℕ
  pub first : IsFirstNamed files directory name file
  pub erased : HasEntryErased format (files.matches name) directory file old new

-- the same store, or one without the file's entry
abbrev pub IsOldOrErased : Meaning → FileMeaning → FileNameView → List (List ℕ) → List (List ℕ) → Type 0
IsOldOrErased format files name old new = (new ≡ old) ⊎ IsErasedOf format files name old new

-- the first file with the name is protected, or is not
abbrev pub HasFirstProtected : Meaning → FileMeaning → EraseMeaning → List (List ℕ) → FileNameView → Type 0
HasFirstProtected format files erasures store name =
    HasFirst format files store name (λ directory file. erasures.protects (entry_of directory file).bytes ≡ true)

abbrev pub HasFirstUnprotected : Meaning → FileMeaning → EraseMeaning → List (List ℕ) → FileNameView → Type 0
HasFirstUnprotected format files erasures store name =
    HasFirst format files store name (λ directory file. erasures.protects (entry_of directory file).bytes ≡ false)

-- what is told of the first file with a name, which is to be deleted
abbrev pub IsDeleteTold : {T : Type 0} → Meaning → FileMeaning → EraseMeaning → List (List ℕ) → FileNameView
    → Result T EditError → Type 0
IsDeleteTold format files erasures store name (Ok x) = HasFirstUnprotected format files erasures store name
IsDeleteTold format files erasures store name (Err Locked) = HasFirstProtected format files erasures store name
IsDeleteTold format files erasures store name (Err error) = Unit {0}

-- the places of those parts that have the number of a file
abbrev pub places_of_file : ℕ → List Part → List ℕ
places_of_file file parts = map (λ (part : Part). part.place) (filter (λ (part : Part). part.file == file) parts)

-- These are the places of the file of an entry, all of them and no others.
pub record HasPlacesOf (format : Meaning) (directory : Directory) (file : ℕ) (store : List (List ℕ))
    (places : List ℕ) : Type 0 where
  pub inside : All (λ place. place < directory.places) places
  pub are : (place : ℕ) → Contains places place ↔ IsTaken format store (root_of directory file) place

-- why a file is not deleted: no other refusal is told
abbrev pub IsDeleteRefusal : EditError → Type 0
IsDeleteRefusal Check = Unit {0}
IsDeleteRefusal NotFound = Unit {0}
IsDeleteRefusal Locked = Unit {0}
IsDeleteRefusal Device = Unit {0}
IsDeleteRefusal Memory = Unit {0}
IsDeleteRefusal error = ⊥
