-- What is written into an entry of a DOS 3.3 catalog (Beneath Apple DOS, chapter 4).
use Rattle.std.specs.Prelude.{ℕ, ◌+◌, ◌%◌, Bool, true, false, slice_index, slice_set, bit_or}
use Rattle.dos_catalog.specs.Writes.{slot_offset}
use Rattle.edit_formats.specs.Edits.{EditMeaning}

-- the kind of a file whose bit 80 is on, which locks it, or off
abbrev pub dos_locked : Bool → ℕ → ℕ
dos_locked true kind = bit_or kind 0x80
dos_locked false kind = kind % 0x80

-- The kind is the first of an entry's bytes, and stands in byte 02 of its slot.
abbrev pub dos_edits : EditMeaning
dos_edits = record {
  locked = λ on bytes. slice_set bytes 0 (dos_locked on (slice_index bytes 0));
  with_lock = λ on entry unit. slice_set unit (slot_offset entry.slot + 0x02)
      (dos_locked on (slice_index entry.bytes 0));
}
