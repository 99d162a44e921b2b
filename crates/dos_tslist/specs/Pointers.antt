-- The pointers of a track/sector list (Beneath Apple DOS, chapter 4): the link to the next list at bytes 01 and 02, and
-- from 0C on 122 pairs of a track and a sector. A track byte 00 is no pointer, whatever the sector byte.
use Rattle.std.specs.Prelude.{ℕ, ◌+◌, ◌*◌, ◌==◌, List, Option, Some, None, slice_index, if◌then◌else◌}

-- where a pair stands, and where the link stands
abbrev pub pair_offset : ℕ → ℕ
pair_offset number = 0x0c + 2 * number

abbrev pub link_offset : ℕ
link_offset = 0x01

-- the track and the sector at an offset, and of a pair
abbrev pub pointer_of : List ℕ → ℕ → Option (ℕ × ℕ)
pointer_of unit at = if slice_index unit at == 0 then None else Some (slice_index unit at, slice_index unit (at + 1))

abbrev pub pair_of : List ℕ → ℕ → Option (ℕ × ℕ)
pair_of unit number = pointer_of unit (pair_offset number)

-- where a pointer is to lead: no place is written as track 0, sector 0
abbrev pub place_or_none : Option ℕ → ℕ
place_or_none (Some place) = place
place_or_none None = 0
