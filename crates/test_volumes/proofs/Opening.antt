-- An image in DOS order of the right length is taken, and how many blocks one in ProDOS order has.
use Rattle.std.proofs.Common.{◌≡◌, ◌<◌, ◌≤◌, ◌/◌, ℕ, length, ap, arith}
use Rattle.a2_device.specs.declared.order.Order.TheVariants.{Dos, Prodos}
use Rattle.a2_image.specs.declared.error.ImageError.{ImageError}
use Rattle.a2_image.specs.declared.error.ImageError.TheVariants.{Length, Memory, Number, NoSector}
use Rattle.a2_device.specs.Order.{IsImageLength, blocks_of}
use Rattle.a2_image.specs.Image.{DiskImage, block_count}
use Rattle.a2_image.specs.Opening.{RefusesToOpen}
use Rattle.a2_image.proofs.Opened.{IsImageLength-Dos}

pub never_refused : (bytes : ℕ) (error : ImageError) → bytes ≡ 143360 → RefusesToOpen Dos bytes error → ⊥
never_refused bytes Length long refused = refused (IsImageLength-Dos bytes long)
never_refused bytes Memory long refused = let nibble = refused.1 in cc
never_refused bytes Number long refused = refused
never_refused bytes NoSector long refused = refused

-- an image in ProDOS order has 16 to 65,535 blocks
pub blocks_within : (image : DiskImage) → image.order ≡ Prodos → IsImageLength Prodos (length image.bytes) → (16 ≤ block_count image) × (block_count image < 65536)
unfolding IsImageLength blocks_of
blocks_within image is long =
    let count : blocks_of image.order (length image.bytes) ≡ length image.bytes / 512 = ap (λ order. blocks_of order (length image.bytes)) is in
    (omega (arith, count, long.1), omega (arith, count, long.2))
