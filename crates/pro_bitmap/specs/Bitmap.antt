-- The bitmap of a volume (ProDOS 8 Technical Reference Manual, Appendix B).
use Rattle.std.specs.Prelude.{◌≡◌, ◌==◌, ◌<◌, ◌≤◌, ℕ, ◌+◌, ◌-◌, ◌*◌, ◌/◌, ◌%◌, ◌^◌, Bool, true, List, length, map, bit_and, bit_or, count_by, slice_index, slice_set}
use Rattle.std.specs.Int.{bit_at}
use Rattle.std.specs.List.{range_with_len}
use Rattle.a2_device.specs.Device.{unit_at}

-- A bitmap: its first block, how many blocks have a bit, and the bytes of its own blocks in order.
pub record FreeMap : Type 0 where
  pub first : ℕ
  pub total : ℕ
  pub units : List (List ℕ)

-- one unit for each 4,096 blocks, and one for what is left
abbrev pub units_of : ℕ → ℕ
units_of total = (total + 4095) / 4096

-- the units of a store from a place on
abbrev pub units_in : List (List ℕ) → ℕ → ℕ → List (List ℕ)
units_in store first count = map (unit_at store) (range_with_len first count)

-- a bitmap has all its units, each of 512 bytes, at places that a number of four bytes can name
pub record IsWhole (first total : ℕ) (units : List (List ℕ)) : Type 0 where
  pub all : length units ≡ units_of total
  pub sizes : (i : ℕ) → i < units_of total → length (unit_at units i) ≡ 512
  pub places : first + units_of total < 2 ^ 32

-- Bit 7 of the first byte of a unit is the first of its 4,096 blocks, bit 6 the second; 1 is free.
abbrev pub is_free_in : List ℕ → ℕ → Bool
is_free_in unit number = bit_at (slice_index unit (number / 8)) (7 - number % 8) == 1

abbrev pub is_free : FreeMap → ℕ → Bool
is_free bitmap block = is_free_in (unit_at bitmap.units (block / 4096)) (block % 4096)

-- how many of the first blocks of a unit are free
unfoldable pub free_below : List ℕ → ℕ → ℕ
free_below unit blocks = count_by (is_free_in unit) (range_with_len 0 blocks)

-- how many blocks are free
unfoldable pub free_count_of : FreeMap → ℕ
free_count_of bitmap = count_by (is_free bitmap) (range_with_len 0 bitmap.total)

-- the place of the unit that has the bit of a block, and the unit at a place
abbrev pub place_of : FreeMap → ℕ → ℕ
place_of bitmap block = bitmap.first + block / 4096

abbrev pub unit_in : FreeMap → ℕ → List ℕ
unit_in bitmap place = unit_at bitmap.units (place - bitmap.first)

-- the bitmap with the byte that has the bit of a block written
abbrev pub with_byte : FreeMap → ℕ → ℕ → FreeMap
with_byte bitmap block byte = record bitmap {
  units = slice_set bitmap.units (block / 4096)
      (slice_set (unit_at bitmap.units (block / 4096)) (block % 4096 / 8) byte);
}

abbrev pub byte_of : FreeMap → ℕ → ℕ
byte_of bitmap block = slice_index (unit_at bitmap.units (block / 4096)) (block % 4096 / 8)

-- the bitmap with one block marked used, or free: one bit is written
abbrev pub marked : FreeMap → ℕ → FreeMap
marked bitmap block = with_byte bitmap block (bit_and (byte_of bitmap block) (255 - 2 ^ (7 - block % 8)))

abbrev pub released : FreeMap → ℕ → FreeMap
released bitmap block = with_byte bitmap block (bit_or (byte_of bitmap block) (2 ^ (7 - block % 8)))

-- a block of the volume is free, and not before another
pub record IsFreeFrom (bitmap : FreeMap) (from block : ℕ) : Type 0 where
  pub within : block < bitmap.total
  pub free : is_free bitmap block ≡ true
  pub behind : from ≤ block

-- the first of these
pub record IsNextFree (bitmap : FreeMap) (from block : ℕ) : Type 0 where
  pub found : IsFreeFrom bitmap from block
  pub first : (other : ℕ) → IsFreeFrom bitmap from other → block ≤ other
