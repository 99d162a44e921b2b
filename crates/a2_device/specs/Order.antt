-- What the order of its sectors says of an image: the lengths that it may have, its blocks, and where a sector of a
-- track stands.
use Rattle.std.specs.Prelude.{◌≡◌, ℕ, ◌*◌, ◌/◌, ◌%◌, ◌≤◌}
use Rattle.a2_device.specs.declared.order.Order.{Order}
use Rattle.a2_device.specs.declared.order.Order.TheVariants.{Dos, Prodos, Nibble}
use Rattle.a2_device.specs.Skew.{dos_of_physical, half_of_physical}

-- the lengths that an image may have: one disk, but in ProDOS order any number of blocks from 16 to 65,535
unfoldable pub IsImageLength : Order → ℕ → Type 0
IsImageLength Dos bytes = bytes ≡ 143360
IsImageLength Prodos bytes = (bytes % 512 ≡ 0) × (512 * 16 ≤ bytes) × (bytes ≤ 512 * 65535)
IsImageLength Nibble bytes = bytes ≡ 232960

-- how many blocks an image of so many bytes has, and how many a disk has
unfoldable pub blocks_of : Order → ℕ → ℕ
blocks_of Dos bytes = 280
blocks_of Prodos bytes = bytes / 512
blocks_of Nibble bytes = 280

-- how many sectors of its track lie before a physical sector; a track of disk bytes has them in their own order
unfoldable pub in_track : Order → ℕ → ℕ
in_track Dos sector = dos_of_physical sector
in_track Prodos sector = half_of_physical sector
in_track Nibble sector = sector
