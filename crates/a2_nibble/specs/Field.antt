-- Data fields: the 343 disk bytes of a sector. (Beneath Apple DOS, chapter 3: the data field.)
use Rattle.std.specs.Prelude.{◌≡◌, ℕ, ◌+◌, ◌*◌, ◌/◌, ◌%◌, ◌^◌, ◌<◌, List, length, slice_index, fold, map, take, All, bit_xor}
use Rattle.std.specs.Int.{bit_at}
use Rattle.std.specs.List.{range_with_len}
use Rattle.a2_nibble.specs.DiskBytes.{value_of}
use Rattle.a2_nibble.specs.Written.{swapped}

-- the value at k: the exclusive or of the values of all disk bytes up to that one
unfoldable pub value_at : List ℕ → ℕ → ℕ
value_at bytes k = fold bit_xor 0 (take (k + 1) (map value_of bytes))

-- 343 disk bytes count: all are in the table, and the last has the value before it
pub record IsDataField (bytes : List ℕ) : Type 0 where
  pub in_table : All (λ byte. value_of byte < 64) bytes
  pub checksum : value_of (slice_index bytes 342) ≡ value_at bytes 341

-- byte i of a sector, each of its bits named by the value and the bit number where it stands:
-- the high six in value 86 + i, the low two, swapped, in value i % 86
pub record IsByte (value : ℕ → ℕ) (i byte : ℕ) : Type 0 where
  pub fits : byte < 256
  pub high : (b : ℕ) → b < 6 → bit_at byte (b + 2) ≡ bit_at (value (86 + i)) b
  pub second : bit_at byte 1 ≡ bit_at (value (i % 86)) (2 * (i / 86))
  pub lowest : bit_at byte 0 ≡ bit_at (value (i % 86)) (2 * (i / 86) + 1)

-- 343 disk bytes give the 256 bytes of a content, whatever the bits are that no byte has
pub record Gives (bytes content : List ℕ) : Type 0 where
  pub long : length content ≡ 256
  pub byte_at : (i : ℕ) → i < 256 → IsByte (value_at bytes) i (slice_index content i)

-- the same as a function: byte i that disk bytes give, and all of them
abbrev pub byte_of : List ℕ → ℕ → ℕ
byte_of bytes i = value_at bytes (86 + i) * 4 + swapped (value_at bytes (i % 86) / 2 ^ (2 * (i / 86)) % 4)

unfoldable pub content_of : List ℕ → List ℕ
content_of bytes = map (byte_of bytes) (range_with_len 0 256)

-- the 343 disk bytes of the content: they count and give it, and the bits that no byte has are 0
pub record IsEncoded (content bytes : List ℕ) : Type 0 where
  pub long : length bytes ≡ 343
  pub counts : IsDataField bytes
  pub gives : Gives bytes content
  pub spare : (value_at bytes 84 < 16) × (value_at bytes 85 < 16)
