-- Sectors that are lent to be written in place.
use Rattle.std.specs.Prelude.{◌==◌, ℕ, ◌+◌, ◌*◌, nat_lt, ◌&&◌, Bool, true, false, List, ◌++◌, length, take, drop, if◌then◌else◌}
use Rattle.std.specs.Borrow.{Lends, MutBor, Fml, u8, Array, RattleType}
use Rattle.std.specs.declared.alloc.Allocator.{Ghosts}
use Rattle.a2_device.specs.declared.order.Order.{Order}
use Rattle.a2_device.specs.declared.order.Order.TheVariants.{Dos, Prodos, Nibble}
use Rattle.a2_image.specs.Image.{DiskImage, block_count, number_in, sectors_by}
use Rattle.a2_image.specs.contracts.image.Image.{the_row}

abbrev pub is_plain : Order → Bool
is_plain Dos = true
is_plain Prodos = true
is_plain Nibble = false

-- whether a sector lies in the image as it is
abbrev pub is_lent : DiskImage → ℕ → ℕ → Bool
is_lent image track sector = is_plain image.order && nat_lt track 35 && nat_lt sector 16 && block_count image == 280

-- where a physical sector of a track begins
abbrev pub sector_offset : Order → ℕ → ℕ → ℕ
sector_offset order track sector = 256 * number_in order (16 * track + sector)

-- from which byte to which an image is lent for a sector: the sector's 256 bytes, or no byte at the image's end
abbrev pub lent_range : DiskImage → ℕ → ℕ → ℕ × ℕ
lent_range image track sector =
    if is_lent image track sector
    then (sector_offset image.order track sector, sector_offset image.order track sector + 256)
    else (length image.bytes, length image.bytes)

-- the bytes with others written over them from an offset on, as far as there is room
unfoldable pub written : List ℕ → ℕ → List ℕ → List ℕ
written bytes at content = take (length bytes) (take at bytes ++ (content ++ drop (length content) (drop at bytes)))

-- an image of one disk with other bytes
abbrev pub with_bytes : DiskImage → List ℕ → DiskImage
with_bytes image bytes = record image { bytes = bytes; sectors = sectors_by image.order bytes }

-- the image after these bytes were left in what was lent for a sector
abbrev pub with_lent : DiskImage → ℕ → ℕ → List ℕ → DiskImage
with_lent image track sector content =
    if is_lent image track sector
    then with_bytes image (written image.bytes (sector_offset image.order track sector) content) else image

-- r is what was lent for a sector: once it is given back, the image has what was left there
abbrev pub LendsSector : (A : RattleType) → Ghosts A.Denot → MutBor DiskImage → ℕ → ℕ → MutBor (List ℕ) → Fml
LendsSector A heap image track sector r = Lends (the_row A heap) (Array u8 0) image r (with_lent image.now track sector)
