-- What locking or unlocking the first file with a name does to the volume.
use Rattle.std.specs.Prelude.{◌≡◌, ◌<◌, ℕ, Bool, List, length}
use Rattle.std.proofs.Common.{sym, ◌∙◌, ap, arith}
use Rattle.a2_device.specs.Device.{DeviceState, IsWhole, unit_at}
use Rattle.vol_format.specs.Accepted.{IsAccepted}
use Rattle.vol_format.specs.Directory.{Directory, Listed, entry_of}
use Rattle.vol_format.specs.Laws.{IsReadable, IsMovable, IsWritable}
use Rattle.vol_format.specs.Meaning.{Meaning}
use Rattle.vol_format.specs.Files.{File}
use Rattle.file_formats.specs.FileNames.{FileNameView}
use Rattle.file_formats.specs.Files.{FileMeaning, IsFirstNamed}
use Rattle.edit_formats.specs.Edits.{EditMeaning, IsLockable, lock_written}
use Rattle.edit_formats.specs.Edited.{IsLockEdit, HasChanged}
use Rattle.edit_formats.specs.Lists.{with_lock_on}
use Rattle.vol_laws.specs.Writes.{Write}
use Rattle.edit_formats.proofs.Changed.{IsOneChange}
use Rattle.file_edits.proofs.RewrittenFile.{first_is_file, first_inside, rewrite_changes}

module _ (format : Meaning) (laws : IsReadable format) (movable : IsMovable format) (writable : IsWritable format)
    (meaning : FileMeaning) (edits : EditMeaning) (lockable : IsLockable format edits) (name : FileNameView) (on : Bool)
    (store : List (List ℕ)) (whole : (place : ℕ) → place < length store → length (unit_at store place) ≡ format.unit_size)
    (directory : Directory) (accepted : IsAccepted format directory store) (file : ℕ) (first : IsFirstNamed meaning directory name file) where
  abbrev entry : Listed
  entry = entry_of directory file

  abbrev change : File → File
  change file = record file { bytes = edits.locked on file.bytes }

  same_file : (f : File) → f.path ≡ entry.path → f.bytes ≡ entry.bytes → record f { path = entry.path; bytes = edits.locked on entry.bytes } ≡ change f
  same_file f path_is bytes_are =
      ap (λ (p : List ℕ). record f { path = p; bytes = edits.locked on entry.bytes }) (sym path_is)
      ∙ ap (λ (b : List ℕ). record f { bytes = edits.locked on b }) (sym bytes_are)

  lock_changes : HasChanged format (with_lock_on meaning edits name on) store (lock_written edits directory store file on)
  lock_changes =
      rewrite_changes format laws movable writable meaning name store directory accepted file first change entry.path (edits.locked on entry.bytes) same_file
      (edits.with_lock on entry (unit_at store entry.place))
      (lockable.relock store directory file on accepted.described first.inside
      (first_is_file format laws movable writable meaning name store directory accepted file first)
      (whole entry.place (first_inside format laws movable writable meaning name store directory accepted file first)))

-- an edit that locks or unlocks, on a device that has all its units
pub lock_is_one_change : (format : Meaning) (laws : IsReadable format) (movable : IsMovable format) (writable : IsWritable format)
    (meaning : FileMeaning) (edits : EditMeaning) (lockable : IsLockable format edits) (name : FileNameView) (on : Bool)
    (device : DeviceState) → IsWhole device → device.unit_size ≡ format.unit_size
    → (writes : List Write) → IsLockEdit format meaning edits device.store name on writes
    → IsOneChange format (with_lock_on meaning edits name on) device.store writes
lock_is_one_change format laws movable writable meaning edits lockable name on device whole size writes is = (
  record {
    place = (entry_of is.directory is.file).place;
    unit = edits.with_lock on (entry_of is.directory is.file) (unit_at device.store (entry_of is.directory is.file).place);
  },
  is.are,
  lock_changes format laws movable writable meaning edits lockable name on device.store
      (λ place below. whole.units place (omega (arith, below, whole.all)) ∙ size) is.directory is.accepted is.file is.first,
)
