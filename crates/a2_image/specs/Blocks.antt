-- The blocks of 512 bytes of an image. (ProDOS 8 Technical Reference Manual, Appendix B.)
use Rattle.std.specs.Prelude.{◌≡◌, ◌≢◌, ◌==◌, ℕ, ◌+◌, ◌*◌, ◌/◌, ◌%◌, ◌<◌, ◌++◌, List, map, take, drop, Option, Some, None, slice_range, slice_set, slice_index_or, if◌then◌else◌}
use Rattle.std.specs.List.{range_with_len}
use Rattle.a2_device.specs.declared.order.Order.TheVariants.{Prodos}
use Rattle.a2_device.specs.Skew.{physical_of_half}
use Rattle.a2_image.specs.Image.{DiskImage, block_count}

-- one content behind another, where both are there
abbrev pub joined : Option (List ℕ) → Option (List ℕ) → Option (List ℕ)
joined (Some front) (Some rear) = Some (front ++ rear)
joined (Some front) None = None
joined None rear = None

-- where the halves of the blocks stand among the sectors, block 0's first half first
abbrev pub sector_of_half : ℕ → ℕ
sector_of_half half = 16 * (half / 16) + physical_of_half (half % 16)

-- a block of a disk is two sectors
abbrev pub block_of_sectors : List (Option (List ℕ)) → ℕ → Option (List ℕ)
block_of_sectors all block =
    joined (slice_index_or all (sector_of_half (2 * block)) None)
    (slice_index_or all (sector_of_half (2 * block + 1)) None)

-- block b of an image in ProDOS order is at 512 b
abbrev pub bytes_of_block : List ℕ → ℕ → List ℕ
bytes_of_block bytes block = slice_range bytes (512 * block) (512 * block + 512)

-- a block of an image, or nothing where a sector of it is missing; an image of another size than a disk has no
-- sectors, and is in ProDOS order
unfoldable pub block_in : DiskImage → ℕ → Option (List ℕ)
block_in image block =
    if block_count image == 280
    then block_of_sectors image.sectors block
    else Some (bytes_of_block image.bytes block)

-- the blocks of an image
unfoldable pub blocks : DiskImage → List (Option (List ℕ))
blocks image = map (block_in image) (range_with_len 0 (block_count image))

-- a block that the image has, and one that it should have and has not
pub record HasBlock (image : DiskImage) (block : ℕ) : Type 0 where
  pub within : block < block_count image
  pub has : block_in image block ≢ None

pub record LacksBlock (image : DiskImage) (block : ℕ) : Type 0 where
  pub within : block < block_count image
  pub lacks : block_in image block ≡ None

-- a block that lies in the image as it is
pub record CanLendBlock (image : DiskImage) (block : ℕ) : Type 0 where
  pub prodos : image.order ≡ Prodos
  pub within : block < block_count image

-- the sectors of a disk with a block written over
abbrev pub with_block : List (Option (List ℕ)) → ℕ → List ℕ → List (Option (List ℕ))
with_block all block content =
    slice_set (slice_set all (sector_of_half (2 * block)) (Some (take 256 content)))
    (sector_of_half (2 * block + 1)) (Some (drop 256 content))
