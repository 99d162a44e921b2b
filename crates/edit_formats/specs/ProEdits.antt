-- What is written into an entry of a ProDOS directory (ProDOS 8 Technical Reference Manual, Appendix B).
use Rattle.std.specs.Prelude.{ℕ, Bool, true, false, slice_index, slice_set, bit_and, bit_or}
use Rattle.pro_dir.specs.Writes.{slot_offset}
use Rattle.pro_format.specs.Rewritten.{access_at, with_access}
use Rattle.edit_formats.specs.Edits.{EditMeaning}

-- The access bits of a file that is locked: destroy, rename and write are off; or unlocked: these and read are on. All
-- others stay.
abbrev pub pro_locked : Bool → ℕ → ℕ
pro_locked true access = bit_and access 0x3d
pro_locked false access = bit_or access 0xc3

-- The access bits stand in byte 1E of an entry's slot, and two bytes sooner among its bytes without its key pointer.
abbrev pub pro_edits : EditMeaning
pro_edits = record {
  locked = λ on bytes. slice_set bytes access_at (pro_locked on (slice_index bytes access_at));
  with_lock = λ on entry unit. with_access (slot_offset entry.slot)
      (pro_locked on (slice_index entry.bytes access_at)) unit;
}
