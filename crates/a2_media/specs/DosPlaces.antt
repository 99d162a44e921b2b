-- The units of a disk by DOS place (Beneath Apple DOS, chapter 3).
use Rattle.std.specs.Prelude.{ℕ, ◌/◌, ◌%◌, List, map, Option}
use Rattle.std.specs.List.{range_with_len}
use Rattle.a2_image.specs.Image.{sector_in}
use Rattle.a2_device.specs.Skew.{physical_of_dos}
use Rattle.a2_media.specs.Units.{stored_units}

-- the sector at a place, 16 times the track plus the logical sector
abbrev pub sector_at : List (Option (List ℕ)) → ℕ → Option (List ℕ)
sector_at sectors place = sector_in sectors (place / 16) (physical_of_dos (place % 16))

-- the sectors of a disk by place
unfoldable pub sectors_by_place : List (Option (List ℕ)) → List (Option (List ℕ))
sectors_by_place sectors = map (sector_at sectors) (range_with_len 0 560)

-- what a device answers of them
abbrev pub dos_units : List (Option (List ℕ)) → List (List ℕ)
dos_units sectors = stored_units 256 (sectors_by_place sectors)
