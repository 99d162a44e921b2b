-- What renaming the first file with a name does to the volume.
use Rattle.std.specs.Prelude.{◌≡◌, ◌<◌, ℕ, true, List, length}
use Rattle.std.proofs.Common.{sym, ◌∙◌, ap, arith}
use Rattle.a2_device.specs.Device.{DeviceState, IsWhole, unit_at}
use Rattle.vol_format.specs.Accepted.{IsAccepted}
use Rattle.vol_format.specs.Directory.{Directory, Listed, entry_of}
use Rattle.vol_format.specs.Laws.{IsReadable, IsMovable, IsWritable}
use Rattle.vol_format.specs.Meaning.{Meaning}
use Rattle.vol_format.specs.Files.{File}
use Rattle.file_formats.specs.FileNames.{FileNameView}
use Rattle.file_formats.specs.Files.{FileMeaning, IsFirstNamed}
use Rattle.edit_formats.specs.Edited.{HasChanged}
use Rattle.edit_formats.specs.Names.{NameMeaning, IsNamable, name_written}
use Rattle.edit_formats.specs.Renamed.{IsRenameEdit, with_new_name}
use Rattle.vol_laws.specs.Writes.{Write}
use Rattle.edit_formats.proofs.Changed.{IsOneChange}
use Rattle.file_edits.proofs.RewrittenFile.{first_is_file, first_inside, rewrite_changes}

module _ (format : Meaning) (laws : IsReadable format) (movable : IsMovable format) (writable : IsWritable format)
    (meaning : FileMeaning) (names : NameMeaning) (namable : IsNamable format names) (name : FileNameView) (new : List ℕ) (may : names.may_have new ≡ true)
    (store : List (List ℕ)) (whole : (place : ℕ) → place < length store → length (unit_at store place) ≡ format.unit_size)
    (directory : Directory) (accepted : IsAccepted format directory store) (file : ℕ) (first : IsFirstNamed meaning directory name file) where
  abbrev entry : Listed
  entry = entry_of directory file

  abbrev change : File → File
  change file = record file { path = names.path new file.path file.bytes; bytes = names.bytes new file.bytes }

  same_file : (f : File) → f.path ≡ entry.path → f.bytes ≡ entry.bytes
      → record f { path = names.path new entry.path entry.bytes; bytes = names.bytes new entry.bytes } ≡ change f
  same_file f path_is bytes_are =
      ap (λ (p : List ℕ). record f { path = names.path new p entry.bytes; bytes = names.bytes new entry.bytes }) (sym path_is)
      ∙ ap (λ (b : List ℕ). record f { path = names.path new f.path b; bytes = names.bytes new b }) (sym bytes_are)

  name_changes : HasChanged format (with_new_name meaning names name new) store (name_written names directory store file new)
  name_changes =
      rewrite_changes format laws movable writable meaning name store directory accepted file first change
      (names.path new entry.path entry.bytes) (names.bytes new entry.bytes) same_file
      (names.with_name new entry (unit_at store entry.place))
      (namable.rename store directory file new may accepted.described first.inside
      (first_is_file format laws movable writable meaning name store directory accepted file first)
      (whole entry.place (first_inside format laws movable writable meaning name store directory accepted file first)))

-- an edit that renames, on a device that has all its units
pub rename_is_one_change : (format : Meaning) (laws : IsReadable format) (movable : IsMovable format) (writable : IsWritable format)
    (meaning : FileMeaning) (names : NameMeaning) (namable : IsNamable format names) (name : FileNameView) (new : List ℕ)
    (device : DeviceState) → IsWhole device → device.unit_size ≡ format.unit_size
    → (writes : List Write) → IsRenameEdit format meaning names device.store name new writes
    → IsOneChange format (with_new_name meaning names name new) device.store writes
rename_is_one_change format laws movable writable meaning names namable name new device whole size writes is = (
  record {
    place = (entry_of is.directory is.file).place;
    unit = names.with_name new (entry_of is.directory is.file) (unit_at device.store (entry_of is.directory is.file).place);
  },
  is.are,
  name_changes format laws movable writable meaning names namable name new is.renamable.name device.store
      (λ place below. whole.units place (omega (arith, below, whole.all)) ∙ size) is.directory is.accepted is.file is.first,
)
