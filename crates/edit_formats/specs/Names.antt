-- What a format of volumes is to the command that renames a file.
use Rattle.std.specs.Prelude.{◌≡◌, ◌<◌, ℕ, Bool, true, false, List, length, slice_set}
use Rattle.a2_device.specs.Device.{unit_at}
use Rattle.vol_format.specs.Directory.{Directory, Listed, entries, entry_of, is_directory}
use Rattle.vol_format.specs.Meaning.{Meaning}
use Rattle.vol_laws.specs.Inserted.{rewritten}

-- `may_have new`: a file may get this name. `HasBeside store directory file new`: an entry in use of the directory in
-- which entry `file` stands has this name as it is stored; the entry itself is one of them, and directories are. `keeps
-- bytes`: an entry with these bytes keeps its name. `path new path bytes` and `bytes new bytes` are what an entry with
-- a path and bytes, without those of its pointer, has with the new name; `with_name new entry unit` is the unit of a
-- directory in which this entry stands, once that is written into its slot.
pub record NameMeaning : Type 1 where
  pub may_have : List ℕ → Bool
  pub HasBeside : List (List ℕ) → Directory → ℕ → List ℕ → Type 0
  pub keeps : List ℕ → Bool
  pub path : List ℕ → List ℕ → List ℕ → List ℕ
  pub bytes : List ℕ → List ℕ → List ℕ
  pub with_name : List ℕ → Listed → List ℕ → List ℕ

-- the store with another name in the entry of a file
abbrev pub name_written : NameMeaning → Directory → List (List ℕ) → ℕ → List ℕ → List (List ℕ)
name_written names directory store file new =
    slice_set store (entry_of directory file).place
    (names.with_name new (entry_of directory file) (unit_at store (entry_of directory file).place))

-- What renaming asks of a format: a name that a file may get can be written into the entry of a file alone.
pub record IsNamable (format : Meaning) (names : NameMeaning) : Type 0 where
  pub name_length : (new : List ℕ) (entry : Listed) (unit : List ℕ) → names.may_have new ≡ true
      → format.HasSlot true entry.slot → length unit ≡ format.unit_size
      → length (names.with_name new entry unit) ≡ length unit
  pub rename : (store : List (List ℕ)) (directory : Directory) (file : ℕ) (new : List ℕ) → names.may_have new ≡ true
      → format.Describes store directory
      → file < entries directory → is_directory (entry_of directory file) ≡ false
      → length (unit_at store (entry_of directory file).place) ≡ format.unit_size
      → format.Describes (name_written names directory store file new)
      (rewritten directory file (names.path new (entry_of directory file).path (entry_of directory file).bytes)
      (names.bytes new (entry_of directory file).bytes))
