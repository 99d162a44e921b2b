-- The map of a volume, as text: the picture of its places, and how many are what.
use Rattle.std.specs.Prelude.{ℕ, ◌+◌, ◌*◌, ◌-◌, ◌/◌, ◌==◌, List, ◌∷◌, ◌++◌, length, map, filter, flat_map, take, drop, replicate, codes, decimal, slice_index_or}
use Rattle.std.specs.List.{range_with_len}
use Rattle.vol_layout.specs.declared.form.PlaceForm.{PlaceForm}
use Rattle.vol_layout.specs.declared.form.PlaceForm.TheVariants.{Sector, Block}
use Rattle.file_listings.specs.DosText.{Text, line}
use Rattle.shop_reads.specs.declared.place_state.PlaceState.{PlaceState}
use Rattle.shop_reads.specs.declared.place_state.PlaceState.TheVariants as states

-- S R o x ? .
abbrev pub character_of : PlaceState → ℕ
character_of states.System = 83
character_of states.Reserved = 82
character_of states.InOrder = 111
character_of states.Elsewhere = 120
character_of states.Lost = 63
character_of states.Free = 46

-- the character of a place, where the states of all places are known
abbrev pub character_at : List PlaceState → ℕ → ℕ
character_at places place = character_of (slice_index_or places place states.Free)

-- a number, right in so many columns
abbrev pub right_in : ℕ → ℕ → Text
right_in width number = replicate (width - length (decimal number)) 32 ++ decimal number

-- of DOS 3.3 the number of a sector, and its character on each track
abbrev pub sector_character : List PlaceState → ℕ → ℕ → ℕ
sector_character places sector track = character_at places (16 * track + sector)

abbrev pub sector_line : List PlaceState → ℕ → Text
sector_line places sector = line (right_in 2 sector ++ 32 ∷ map (sector_character places sector) (range_with_len 0 35))

-- sectors 15 down to 0
abbrev pub sector_lines : List PlaceState → Text
sector_lines places = flat_map (λ below. sector_line places (15 - below)) (range_with_len 0 16)

-- of ProDOS the number of the first of up to 64 blocks, and their characters
abbrev pub block_line : List PlaceState → ℕ → Text
block_line places number = line
    (right_in 5 (64 * number) ++ 32 ∷ map character_of (take 64 (drop (64 * number) places)))

-- a line for each 64 blocks begun
abbrev pub block_lines : List PlaceState → Text
block_lines places = flat_map (block_line places) (range_with_len 0 ((length places + 63) / 64))

abbrev pub picture : PlaceForm → List PlaceState → Text
picture Sector places = sector_lines places
picture Block places = block_lines places

-- how many places have a character
abbrev pub how_many : ℕ → List PlaceState → ℕ
how_many character places = length (filter (λ state. character_of state == character) places)

-- how many parts there are, and how many of them and of the other places the picture has
abbrev pub counts_text : ℕ → ℕ → ℕ → ℕ → ℕ → Text
counts_text parts in_order elsewhere lost free =
    codes "PARTS " ++ (decimal parts ++ (codes " IN ORDER " ++ (decimal in_order
    ++ (codes " ELSEWHERE " ++ (decimal elsewhere
    ++ (codes " LOST " ++ (decimal lost ++ (codes " FREE " ++ decimal free))))))))

-- the last line, where there are so many parts
abbrev pub last_line : ℕ → List PlaceState → Text
last_line parts places =
    line (counts_text parts (how_many 111 places) (how_many 120 places) (how_many 63 places) (how_many 46 places))

-- the map of a volume that has so many parts and whose places are in these states
abbrev pub map_text : PlaceForm → ℕ → List PlaceState → Text
map_text form parts places = picture form places ++ last_line parts places
