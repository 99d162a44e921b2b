-- What a format of volumes is to the commands that change an entry.
use Rattle.std.specs.Prelude.{◌≡◌, ◌<◌, ℕ, Bool, false, List, length, slice_set}
use Rattle.a2_device.specs.Device.{unit_at}
use Rattle.vol_format.specs.Directory.{Directory, Listed, entries, entry_of, is_directory}
use Rattle.vol_format.specs.Meaning.{Meaning}
use Rattle.vol_laws.specs.Inserted.{rewritten}

-- `locked on bytes` are the bytes of an entry, without those of its pointer, once its file is locked or unlocked;
-- `with_lock on entry unit` is the unit of a directory in which this entry stands, once that is written into its slot.
pub record EditMeaning : Type 0 where
  pub locked : Bool → List ℕ → List ℕ
  pub with_lock : Bool → Listed → List ℕ → List ℕ

-- the store with the entry of a file locked or unlocked
abbrev pub lock_written : EditMeaning → Directory → List (List ℕ) → ℕ → Bool → List (List ℕ)
lock_written edits directory store file on =
    slice_set store (entry_of directory file).place
    (edits.with_lock on (entry_of directory file) (unit_at store (entry_of directory file).place))

-- What locking asks of a format: it can be written into the entry of a file alone.
pub record IsLockable (format : Meaning) (edits : EditMeaning) : Type 0 where
  pub lock_length : (on : Bool) (entry : Listed) (unit : List ℕ) → length (edits.with_lock on entry unit) ≡ length unit
  pub relock : (store : List (List ℕ)) (directory : Directory) (file : ℕ) (on : Bool) → format.Describes store directory
      → file < entries directory
      → is_directory (entry_of directory file) ≡ false
      → length (unit_at store (entry_of directory file).place) ≡ format.unit_size
      → format.Describes (lock_written edits directory store file on)
      (rewritten directory file (entry_of directory file).path (edits.locked on (entry_of directory file).bytes))
