-- In DOS 3.3 a file is locked and unlocked in its entry alone.
use Rattle.std.specs.Prelude.{◌+◌, Bool, List, slice_index}
use Rattle.std.proofs.lemmas.List.{length-set}
use Rattle.dos_catalog.specs.Writes.{slot_offset}
use Rattle.vol_format.specs.Directory.{entry_of}
use Rattle.dos_format.specs.Dos.{dos_meaning}
use Rattle.dos_format.proofs.Rewrites.{kind_rewrites}
use Rattle.edit_formats.specs.Edits.{IsLockable}
use Rattle.edit_formats.specs.DosEdits.{dos_edits, dos_locked}

pub dos_is_lockable : (data_disk : Bool) (reserved : List Bool) → IsLockable (dos_meaning data_disk reserved) dos_edits
dos_is_lockable data_disk reserved = record {
  lock_length = λ on entry unit. length-set unit (slot_offset entry.slot + 0x02) (dos_locked on (slice_index entry.bytes 0));
  relock = λ store directory file on described inside is_file whole.
      kind_rewrites (dos_locked on (slice_index (entry_of directory file).bytes 0)) data_disk reserved store directory file described inside whole;
}
