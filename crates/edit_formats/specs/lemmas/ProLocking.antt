-- In ProDOS a file is locked and unlocked in its entry alone.
use Rattle.std.specs.Prelude.{◌+◌, Bool, List, slice_index, slice_set}
use Rattle.std.proofs.lemmas.List.{length-set}
use Rattle.pro_dir.specs.Writes.{slot_offset}
use Rattle.vol_format.specs.Directory.{entry_of}
use Rattle.pro_format.specs.Pro.{pro_meaning}
use Rattle.pro_format.specs.Rewritten.{access_at, with_access}
use Rattle.pro_format.proofs.AccessBits.{is_access}
use Rattle.pro_format.proofs.Rewrites.{entry_rewritten}
use Rattle.edit_formats.specs.Edits.{IsLockable}
use Rattle.edit_formats.specs.ProEdits.{pro_edits, pro_locked}

pub pro_is_lockable : (reserved : List Bool) → IsLockable (pro_meaning reserved) pro_edits
pro_is_lockable reserved = record {
  lock_length = λ on entry unit. length-set unit (slot_offset entry.slot + 0x1e) (pro_locked on (slice_index entry.bytes access_at));
  relock = λ store directory file on described inside is_file whole.
      let access = pro_locked on (slice_index (entry_of directory file).bytes access_at) in
      entry_rewritten (λ at unit. with_access at access unit) (λ path bytes. path) (λ bytes. slice_set bytes access_at access) (is_access access)
      reserved store directory described file inside is_file whole;
}
