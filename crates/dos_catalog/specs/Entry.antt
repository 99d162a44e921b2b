-- The entries of a catalog sector (Beneath Apple DOS, chapter 4).
use Rattle.std.specs.Prelude.{ℕ, ◌+◌, ◌*◌, ◌==◌, not, ◌&&◌, Bool, List, Option, take, drop, map, filter, flat_map, slice_index, slice_get}
use Rattle.std.specs.List.{range_with_len}
use Rattle.a2_device.specs.Device.{unit_at}
use Rattle.dos_catalog.specs.declared.entry.Entry.{Entry}

-- an entry is 35 bytes, seven in a sector, from 0B on
abbrev pub entry_at : ℕ → List ℕ → ℕ → Entry
entry_at place unit slot = record { place = place; slot = slot; bytes = take 35 (drop (0x0b + 35 * slot) unit) }

-- byte 00 of an entry that was never used is 00, of a deleted one FF; neither ends the catalog
abbrev pub is_in_use : Entry → Bool
is_in_use entry = not (slice_index entry.bytes 0 == 0) && not (slice_index entry.bytes 0 == 0xff)

-- the entries in use of one sector
abbrev pub entries_of : ℕ → List ℕ → List Entry
entries_of place unit = filter is_in_use (map (entry_at place unit) (range_with_len 0 7))

-- the entries in use of some sectors, in order
abbrev pub entries_in : List (List ℕ) → List ℕ → List Entry
entries_in store sectors = flat_map (λ place. entries_of place (unit_at store place)) sectors

-- the slots of one sector that have no entry in use: its place and their numbers
abbrev pub free_slots_of : ℕ → List ℕ → List (ℕ × ℕ)
free_slots_of place unit = map (λ slot. (place, slot))
    (filter (λ slot. not (is_in_use (entry_at place unit slot))) (range_with_len 0 7))

-- the slots without an entry in use of some sectors, in order
abbrev pub free_slots_in : List (List ℕ) → List ℕ → List (ℕ × ℕ)
free_slots_in store sectors = flat_map (λ place. free_slots_of place (unit_at store place)) sectors
