-- Images in DOS order: their length, and that they are those of a disk.
use Rattle.std.proofs.Common.{◌≡◌, ℕ, length, ap}
use Rattle.a2_device.specs.declared.order.Order.TheVariants.{Dos}
use Rattle.a2_device.specs.Order.{IsImageLength, blocks_of}
use Rattle.a2_image.specs.Image.{DiskImage, IsOfDisk}

pub IsImageLength-Dos : (bytes : ℕ) → bytes ≡ 143360 → IsImageLength Dos bytes
unfolding IsImageLength
IsImageLength-Dos bytes long = long

pub dos_length : (bytes : ℕ) → IsImageLength Dos bytes → bytes ≡ 143360
unfolding IsImageLength
dos_length bytes long = long

pub IsOfDisk-Dos : (image : DiskImage) → image.order ≡ Dos → IsOfDisk image
unfolding blocks_of
IsOfDisk-Dos image is = ap (λ order. blocks_of order (length image.bytes)) is
