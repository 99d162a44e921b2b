-- The volume table of contents (Beneath Apple DOS, chapter 4).
use Rattle.std.specs.Prelude.{◌≡◌, ◌==◌, ◌<◌, ◌≤◌, ℕ, ◌+◌, ◌-◌, ◌*◌, ◌/◌, ◌%◌, ◌^◌, Bool, true, false, List, Option, Some, None, bit_and, bit_or, count_by, slice_index, slice_set, if◌then◌else◌}
use Rattle.std.specs.Int.{bit_at}
use Rattle.std.specs.List.{range_with_len}

-- the VTOC of a volume of 35 tracks of 16 sectors of 256 bytes
pub record HasGeometry (vtoc : List ℕ) : Type 0 where
  pub tracks : slice_index vtoc 0x34 ≡ 35
  pub sectors : slice_index vtoc 0x35 ≡ 16
  pub sector_low : slice_index vtoc 0x36 ≡ 0
  pub sector_high : slice_index vtoc 0x37 ≡ 1

-- The link at bytes 01 and 02, where the VTOC names the first catalog sector, a catalog sector the next one and a
-- track/sector list the next list: track and sector, or none where the track byte is 00.
abbrev pub link_of : List ℕ → Option (ℕ × ℕ)
link_of unit = if slice_index unit 1 == 0 then None else Some (slice_index unit 1, slice_index unit 2)

abbrev pub volume_number : List ℕ → ℕ
volume_number vtoc = slice_index vtoc 0x06

-- From 38 on there are four bytes for each track: the first has sectors 15 to 8 from its high bit down, the second
-- 7 to 0, the others are unused.
abbrev pub byte_of_place : ℕ → ℕ
byte_of_place place = 0x38 + 4 * (place / 16) + 1 - place % 16 / 8

-- a sector is free where its bit is 1
abbrev pub is_free : List ℕ → ℕ → Bool
is_free vtoc place = bit_at (slice_index vtoc (byte_of_place place)) (place % 8) == 1

-- how many of the 560 sectors are free
unfoldable pub free_count_of : List ℕ → ℕ
free_count_of vtoc = count_by (is_free vtoc) (range_with_len 0 560)

-- the VTOC with one sector marked used, or free: one bit is written
abbrev pub marked : List ℕ → ℕ → List ℕ
marked vtoc place = slice_set vtoc (byte_of_place place)
    (bit_and (slice_index vtoc (byte_of_place place)) (255 - 2 ^ (place % 8)))

abbrev pub released : List ℕ → ℕ → List ℕ
released vtoc place = slice_set vtoc (byte_of_place place)
    (bit_or (slice_index vtoc (byte_of_place place)) (2 ^ (place % 8)))

-- DOS takes sectors by rising track, and within a track from sector 15 down to 0: the number of a place in that order
abbrev pub order_of : ℕ → ℕ
order_of place = 16 * (place / 16) + 15 - place % 16

-- a place is free, and not before another in that order
pub record IsFreeFrom (vtoc : List ℕ) (from place : ℕ) : Type 0 where
  pub within : place < 560
  pub free : is_free vtoc place ≡ true
  pub behind : order_of from ≤ order_of place

-- the first of these
pub record IsNextFree (vtoc : List ℕ) (from place : ℕ) : Type 0 where
  pub found : IsFreeFrom vtoc from place
  pub first : (other : ℕ) → IsFreeFrom vtoc from other → order_of place ≤ order_of other
