-- The sectors of an empty DOS 3.3 volume (Beneath Apple DOS, chapter 4).
use Rattle.std.specs.Prelude.{ℕ, ◌-◌, ◌/◌, ◌%◌, ◌==◌, nat_lt, not, ◌&&◌, ◌||◌, Bool, if◌then◌else◌, List, [], ◌∷◌, map}
use Rattle.std.specs.List.{range_with_len}
use Rattle.new_volumes.specs.Fields.{unit_with, zeros}

-- Files may stand on each track but 0 and 17, and on 1 and 2 of a data disk alone.
abbrev pub is_for_files : Bool → ℕ → Bool
is_for_files data_disk track = not (track == 0 || track == 17 || (not data_disk && nat_lt track 3))

-- The map of free sectors has four bytes for each of the 35 tracks: FF FF 00 00 where all are free, else 00s.
abbrev pub map_byte : Bool → ℕ → ℕ
map_byte data_disk at = if is_for_files data_disk (at / 4) && nat_lt (at % 4) 2 then 0xff else 0

unfoldable pub free_map : Bool → List ℕ
free_map data_disk = map (map_byte data_disk) (range_with_len 0 140)

-- The first catalog sector is 17/15 and the release of DOS is 3; the volume number; 122 pairs in a list; the track that
-- was given last and the direction; 35 tracks of 16 sectors of 256 bytes; and the map.
abbrev pub vtoc_fields : ℕ → Bool → List (ℕ × List ℕ)
vtoc_fields number data_disk =
    (0x01, 17 ∷ 15 ∷ 3 ∷ []) ∷ (0x06, number ∷ []) ∷ (0x27, 122 ∷ []) ∷ (0x30, 18 ∷ 1 ∷ [])
    ∷ (0x34, 35 ∷ 16 ∷ 0 ∷ 1 ∷ []) ∷ (0x38, free_map data_disk) ∷ []

-- the sectors of track 17: the VTOC, and the catalog, whose sectors 15 down to 2 name the next lower one
abbrev pub catalog_fields : ℕ → List (ℕ × List ℕ)
catalog_fields sector = if nat_lt 1 sector then (0x01, 17 ∷ (sector - 1) ∷ []) ∷ [] else []

unfoldable pub track_17 : ℕ → Bool → ℕ → List ℕ
track_17 number data_disk sector =
    unit_with 256 (if sector == 0 then vtoc_fields number data_disk else catalog_fields sector)

-- the sector at a place, where nothing is copied
abbrev pub empty_sector : ℕ → Bool → ℕ → List ℕ
empty_sector number data_disk place = if place / 16 == 17 then track_17 number data_disk (place % 16) else zeros 256
