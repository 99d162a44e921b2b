-- Lines of maps that are worked out by hand: the definitions compute to them.
use Rattle.std.proofs.Common.{◌≡◌, ℕ, ◌/◌, refl, List, codes, map}
use Rattle.std.specs.Prelude.{◌==◌, ◌||◌, nat_lt, if◌then◌else◌}
use Rattle.std.specs.Fmt.{digits}
use Rattle.std.specs.List.{range_with_len}
use Rattle.shop_reads.specs.MapText.{block_line, last_line, sector_line}
use Rattle.shop_reads.specs.declared.place_state.PlaceState.{PlaceState}
use Rattle.shop_reads.specs.declared.place_state.PlaceState.TheVariants.{System, Elsewhere, Free}

-- a disk with DOS and one file, whose list stands on sector 14 of track 3 and its body on sector 15
state_of : ℕ → PlaceState
state_of place =
    if nat_lt place 48 || place / 16 == 17 then System else (if place == 62 || place == 63 then Elsewhere else Free)

disk : List PlaceState
disk = map state_of (range_with_len 0 560)

last_sectors : sector_line disk 15 ≡ codes "15 SSSx.............S.................\n"
unfolding digits disk state_of
last_sectors = refl

first_sectors : sector_line disk 0 ≡ codes " 0 SSS..............S.................\n"
unfolding digits disk state_of
first_sectors = refl

counts : last_line 2 disk ≡ codes "PARTS 2 IN ORDER 0 ELSEWHERE 2 LOST 0 FREE 494\n"
unfolding digits disk state_of
counts = refl

-- the last places of the same table, read as blocks
last_blocks : block_line disk 8 ≡ codes "  512 ................................................\n"
unfolding digits disk state_of
last_blocks = refl
