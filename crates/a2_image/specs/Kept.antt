-- How an image in memory gives its sectors and the bytes that no write may change: by its bytes, and in nibble order by
-- the field that it keeps for each sector.
use Rattle.std.specs.Prelude.{◌≡◌, ◌==◌, ℕ, ◌+◌, ◌*◌, ◌/◌, ◌%◌, ◌<◌, nat_lt, Bool, false, List, [], length, map, replicate, Option, Some, None, slice_index, slice_index_or, if◌then◌else◌}
use Rattle.std.specs.List.{list_any, range_with_len}
use Rattle.a2_nibble.specs.declared.search.Field.{Field}
use Rattle.a2_nibble.specs.Field.{content_of}
use Rattle.a2_nibble.specs.Search.{FindsSector}
use Rattle.a2_nibble.specs.Sector.{IsFieldOf}
use Rattle.a2_nibble.specs.Track.{behind, field_at}
use Rattle.a2_device.specs.declared.order.Order.{Order}
use Rattle.a2_device.specs.declared.order.Order.TheVariants.{Dos, Prodos, Nibble}
use Rattle.a2_device.specs.Order.{IsImageLength}
use Rattle.a2_image.specs.Image.{DiskImage, sectors_by, sector_in}
use Rattle.a2_image.specs.Tracks.{track_of}

-- what a field of a track gives
abbrev pub content_at : List ℕ → Option Field → Option (List ℕ)
content_at nibbles (Some field) = Some (content_of (field_at nibbles field.data_at))
content_at nibbles None = None

-- the sector of a kept field
unfoldable pub kept_sector : List ℕ → List (Option Field) → ℕ → Option (List ℕ)
kept_sector bytes fields n = content_at (track_of bytes (n / 16)) (slice_index_or fields n None)

-- the sectors of an image of these bytes that keeps these fields
unfoldable pub kept_sectors : Order → List ℕ → List (Option Field) → List (Option (List ℕ))
kept_sectors Dos bytes fields = sectors_by Dos bytes
kept_sectors Prodos bytes fields = if length bytes / 512 == 280 then sectors_by Prodos bytes else []
kept_sectors Nibble bytes fields = map (kept_sector bytes fields) (range_with_len 0 560)

-- whether a place of a track is among the 343 disk bytes of a field
abbrev pub is_in_field : ℕ → Option Field → Bool
is_in_field place (Some field) = nat_lt (behind field.data_at place) 343
is_in_field place None = false

-- whether a byte of an image is among those of a kept field of its track
unfoldable pub is_data_byte : List (Option Field) → ℕ → Bool
is_data_byte fields n = list_any
    (λ sector. is_in_field (n % 6656) (slice_index_or fields (16 * (n / 6656) + sector) None)) (range_with_len 0 16)

-- what is kept at a byte
unfoldable pub kept_byte : List ℕ → List (Option Field) → ℕ → Option ℕ
kept_byte bytes fields n = if is_data_byte fields n then None else Some (slice_index bytes n)

-- the bytes that no write may change of an image of these bytes that keeps these fields
unfoldable pub kept_bytes : Order → List ℕ → List (Option Field) → List (Option ℕ)
kept_bytes Dos bytes fields = replicate (length bytes) None
kept_bytes Prodos bytes fields = replicate (length bytes) None
kept_bytes Nibble bytes fields = map (kept_byte bytes fields) (range_with_len 0 (length bytes))

-- the fields are those that a search would find
pub record KeepsFields (bytes : List ℕ) (fields : List (Option Field)) : Type 0 where
  pub count : length fields ≡ 560
  pub finds : (n : ℕ) → n < 560 →
      FindsSector (track_of bytes (n / 16)) (n / 16) (n % 16) (slice_index_or fields n None)

-- what holds of every image
pub record IsKept (order : Order) (bytes : List ℕ) (fields : List (Option Field)) : Type 0 where
  pub long : IsImageLength order (length bytes)
  pub keeps : order ≡ Nibble → KeepsFields bytes fields

-- a field that an image in nibble order keeps for one of its sectors
pub record HasField (image : DiskImage) (track sector : ℕ) (field : Field) : Type 0 where
  pub nibble : image.order ≡ Nibble
  pub stands : IsFieldOf (track_of image.bytes track) track sector field.volume field.data_at
  pub gives : sector_in image.sectors track sector
      ≡ Some (content_of (field_at (track_of image.bytes track) field.data_at))
