-- What is written into the slots of a catalog sector (Beneath Apple DOS, chapter 4).
use Rattle.std.specs.Prelude.{ℕ, ◌+◌, ◌*◌, ◌/◌, ◌%◌, List, [], ◌∷◌, ◌++◌, length, take, drop, slice_index, slice_set}
use Rattle.dos_catalog.specs.declared.slot.NewEntry.{NewEntry}

-- where a slot begins in its sector
abbrev pub slot_offset : ℕ → ℕ
slot_offset slot = 0x0b + 35 * slot

-- a sector with some bytes written from an offset on
abbrev pub with_bytes : ℕ → List ℕ → List ℕ → List ℕ
with_bytes at bytes unit = take at unit ++ bytes ++ drop (at + length bytes) unit

-- a sector with the track and the sector of a place at an offset and behind it
abbrev pub with_place : ℕ → ℕ → List ℕ → List ℕ
with_place at place unit = slice_set (slice_set unit at (place / 16)) (at + 1) (place % 16)

-- an entry's 35 bytes: the track and sector of the first list, the kind, the name, and the length with its low byte
-- first
abbrev pub entry_bytes : NewEntry → List ℕ
entry_bytes entry = (entry.pointer / 16) ∷ (entry.pointer % 16) ∷ entry.kind
    ∷ (entry.name ++ (entry.sectors % 256) ∷ (entry.sectors / 256) ∷ [])

-- A deleted entry has its track in the last byte of its name, and FF in its place.
abbrev pub erased : ℕ → List ℕ → List ℕ
erased slot unit = slice_set (slice_set unit (slot_offset slot + 0x20) (slice_index unit (slot_offset slot)))
    (slot_offset slot) 0xff
