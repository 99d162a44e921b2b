-- What a format of volumes is to the command that deletes a file: the writes that erase the entry of a file.
use Rattle.std.specs.Prelude.{◌≡◌, ◌≢◌, ◌<◌, ◌≤◌, ℕ, Bool, false, List, length, take, All}
use Rattle.a2_device.specs.Device.{unit_at}
use Rattle.vol_format.specs.Directory.{Directory, entries, entry_of, is_directory, map_place}
use Rattle.vol_format.specs.Meaning.{Meaning}
use Rattle.vol_laws.specs.Entered.{HasSameRest}
use Rattle.vol_laws.specs.Inserted.{inserted}
use Rattle.vol_laws.specs.Writes.{Write, store_after}

-- all units of a store have the size that the format asks for
abbrev pub HasWholeUnits : Meaning → List (List ℕ) → Type 0
HasWholeUnits format store = (place : ℕ) → place < length store → length (unit_at store place) ≡ format.unit_size

-- From the first of these writes on the store has the directory without the entry of the file, and no unit outside the
-- system is written, nor one that has marks of places.
pub record IsErasing (format : Meaning) (directory : Directory) (file : ℕ) (store : List (List ℕ))
    (writes : List Write) : Type 0 where
  pub few : Directory
  pub takes : format.Takes few.places
  pub within : file ≤ entries few
  pub is : directory ≡ inserted few file (entry_of directory file)
  pub erases : 0 < length writes
  pub described : (n : ℕ) → 0 < n → n ≤ length writes → format.Describes (store_after (take n writes) store) few
  pub rest : (n : ℕ) → 0 < n → n ≤ length writes → HasSameRest few store (store_after (take n writes) store)
  pub apart : (place : ℕ) → place < directory.places
      → All (λ (write : Write). write.place ≢ map_place directory place) writes

-- `protects bytes`: an entry with these bytes, without those of its pointer, does not let its file be deleted. `Erases
-- store directory file writes`: these are the writes that erase the entry of a file, byte for byte as the format has
-- them.
pub record EraseMeaning : Type 1 where
  pub protects : List ℕ → Bool
  pub Erases : List (List ℕ) → Directory → ℕ → List Write → Type 0

-- What deleting asks of a format: these writes take the entry of a file out of the directory.
pub record IsErasable (format : Meaning) (erasures : EraseMeaning) : Type 0 where
  pub erasing : (store : List (List ℕ)) (directory : Directory) (file : ℕ) (writes : List Write)
      → format.Describes store directory → file < entries directory
      → is_directory (entry_of directory file) ≡ false → HasWholeUnits format store
      → erasures.Erases store directory file writes
      → IsErasing format directory file store writes
