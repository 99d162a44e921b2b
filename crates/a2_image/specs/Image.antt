-- A disk image, and the sectors and blocks that it holds whatever its order.
use Rattle.std.specs.Prelude.{◌≡◌, ◌≢◌, ◌==◌, ℕ, ◌+◌, ◌*◌, ◌/◌, ◌%◌, ◌<◌, ◌≤◌, ◌⊎◌, List, [], length, map, replicate, Option, Some, None, unwrap_or, slice_range, slice_index_or, if◌then◌else◌}
use Rattle.std.specs.List.{range_with_len}
use Rattle.a2_device.specs.declared.order.Order.{Order}
use Rattle.a2_device.specs.declared.order.Order.TheVariants.{Dos, Prodos, Nibble}
use Rattle.a2_device.specs.Order.{blocks_of, in_track}
use Rattle.a2_image.specs.Tracks.{HoldsTracks}

-- An image: the order of its sectors, its bytes, for each physical sector s of each track t, at 16 t + s, its content,
-- or nothing where the image has none, and each byte that no write may change, or nothing where one may.
pub record DiskImage : Type 0 where
  pub order : Order
  pub bytes : List ℕ
  pub sectors : List (Option (List ℕ))
  pub kept : List (Option ℕ)

abbrev pub block_count : DiskImage → ℕ
block_count image = blocks_of image.order (length image.bytes)

-- a disk, and not an image of another size
abbrev pub IsOfDisk : DiskImage → Type 0
IsOfDisk image = block_count image ≡ 280

-- the 256 bytes of a sector that lies behind so many others
abbrev pub bytes_of_sector : List ℕ → ℕ → List ℕ
bytes_of_sector bytes number = slice_range bytes (256 * number) (256 * number + 256)

-- how many sectors of the image lie before physical sector s of track t, for 16 t + s
abbrev pub number_in : Order → ℕ → ℕ
number_in order n = 16 * (n / 16) + in_track order (n % 16)

-- the sectors of an image that has one behind the other
unfoldable pub sectors_by : Order → List ℕ → List (Option (List ℕ))
sectors_by order bytes = map (λ n. Some (bytes_of_sector bytes (number_in order n))) (range_with_len 0 560)

-- the sectors that these bytes hold; an image of another size than a disk has none
unfoldable pub HoldsSectors : Order → List ℕ → List (Option (List ℕ)) → Type 0
HoldsSectors Dos bytes sectors = sectors ≡ sectors_by Dos bytes
HoldsSectors Prodos bytes sectors = sectors ≡ (if length bytes / 512 == 280 then sectors_by Prodos bytes else [])
HoldsSectors Nibble bytes sectors = HoldsTracks bytes sectors

-- the content of one sector
abbrev pub sector_in : List (Option (List ℕ)) → ℕ → ℕ → Option (List ℕ)
sector_in all track sector = slice_index_or all (16 * track + sector) None

-- no disk has this sector, or the image is not that of a disk
abbrev pub IsOutside : DiskImage → ℕ → ℕ → Type 0
IsOutside image track sector = (35 ≤ track) ⊎ (16 ≤ sector) ⊎ (block_count image ≢ 280)

-- a sector that a disk has and the image has not
pub record LacksSector (image : DiskImage) (track sector : ℕ) : Type 0 where
  pub track_fits : track < 35
  pub sector_fits : sector < 16
  pub disk : IsOfDisk image
  pub lacks : sector_in image.sectors track sector ≡ None

-- a sector that the image has
pub record HasSector (image : DiskImage) (track sector : ℕ) : Type 0 where
  pub track_fits : track < 35
  pub sector_fits : sector < 16
  pub disk : IsOfDisk image
  pub has : sector_in image.sectors track sector ≢ None

-- a sector that lies in the image as it is
pub record CanLend (image : DiskImage) (track sector : ℕ) : Type 0 where
  pub plain : image.order ≢ Nibble
  pub track_fits : track < 35
  pub sector_fits : sector < 16
  pub disk : IsOfDisk image

-- a sector of zeros
unfoldable pub zeros : List ℕ
zeros = replicate 256 0

-- the content of one sector, zeros where the image has none
abbrev pub content_or_zeros : List (Option (List ℕ)) → ℕ → ℕ → List ℕ
content_or_zeros all track sector = unwrap_or (sector_in all track sector) zeros

-- the sectors of a disk: 560, each of 256 bytes where it is there
pub record IsDisk (all : List (Option (List ℕ))) : Type 0 where
  pub count : length all ≡ 560
  pub size : (track sector : ℕ) → length (content_or_zeros all track sector) ≡ 256
