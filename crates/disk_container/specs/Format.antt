-- The header of a container, by the 2IMG (2MG) file format, as emulators write it. All numbers have their low byte
-- first.
use Rattle.std.specs.Prelude.{ℕ, ◌+◌, ◌*◌, ◌%◌, ◌==◌, Bool, List, Option, Some, None, codes, if◌then◌else◌, nat_eq}
use Rattle.std.specs.Prelude.{IsTrue, slice_index}
use Rattle.std.specs.Int.{bit_at}
use Rattle.std.specs.List.{starts_with}
use Rattle.disk_container.specs.declared.header.Header.{Header}
use Rattle.a2_device.specs.declared.order.Order.{Order}
use Rattle.disk_container.specs.Order.{whole_size}

-- the number of two bytes at an offset
abbrev pub two_at : List ℕ → ℕ → ℕ
two_at bytes at = slice_index bytes at + 256 * slice_index bytes (at + 1)

-- the number of four bytes at an offset
abbrev pub four_at : List ℕ → ℕ → ℕ
four_at bytes at =
    slice_index bytes at + 256 * slice_index bytes (at + 1) + 65536 * slice_index bytes (at + 2)
    + 16777216 * slice_index bytes (at + 3)

-- ---- the header

abbrev pub BeginsLikeContainer : List ℕ → Type 0
BeginsLikeContainer bytes = IsTrue (starts_with nat_eq bytes (codes "2IMG"))

-- the numbers of a header that tell of its image. The creator, the version, the comment and the creator's own data are
-- not looked at
abbrev pub header_of : List ℕ → Header
header_of bytes = record {
  size = two_at bytes 0x08;
  format = four_at bytes 0x0c;
  flags = four_at bytes 0x10;
  blocks = four_at bytes 0x14;
  data_start = four_at bytes 0x18;
  data_size = four_at bytes 0x1c;
}

-- how many bytes the image has: those of the data, and where the header says 0, those of the whole image
abbrev pub image_size : Order → Header → ℕ
image_size order header = if header.data_size == 0 then whole_size order header.blocks else header.data_size

-- ---- the flags

-- bit 31: the image is not to be written
abbrev pub is_protected : ℕ → Bool
is_protected flags = bit_at flags 31 == 1

-- bit 8: the bits 7 to 0 are the volume number of DOS 3.3
abbrev pub volume_of : ℕ → Option ℕ
volume_of flags = if bit_at flags 8 == 1 then Some (flags % 256) else None
