-- Images of a disk by their length, and which bytes are none.
use Rattle.std.proofs.Common.{◌≡◌, ℕ, List, length, arith, refl}
use Rattle.a2_device.specs.declared.order.Order.{Order}
use Rattle.a2_device.specs.declared.order.Order.TheVariants.{Dos, Prodos, Nibble}
use Rattle.a2_device.specs.Order.{IsImageLength, blocks_of}
use Rattle.a2_image.specs.declared.error.ImageError.{ImageError}
use Rattle.a2_image.specs.declared.error.ImageError.TheVariants as images
use Rattle.a2_image.specs.Opening.{RefusesToOpen}
use Rattle.shop_replies.specs.Disk.{RefusesDisk, disk_bytes}

pub IsImageLength-disk : (order : Order) (bytes : ℕ) → bytes ≡ disk_bytes order → IsImageLength order bytes
unfolding IsImageLength
IsImageLength-disk Dos bytes long = long
IsImageLength-disk Prodos bytes long = (omega (arith, long), omega (arith, long), omega (arith, long))
IsImageLength-disk Nibble bytes long = long

pub disk_length : (order : Order) (bytes : ℕ) → IsImageLength order bytes → blocks_of order bytes ≡ 280 → bytes ≡ disk_bytes order
unfolding IsImageLength blocks_of
disk_length Dos bytes long blocks = long
disk_length Prodos bytes long blocks = let rest = long.0 in omega (arith, rest, blocks)
disk_length Nibble bytes long blocks = long

pub blocks_of-disk : (order : Order) (bytes : ℕ) → bytes ≡ disk_bytes order → blocks_of order bytes ≡ 280
unfolding blocks_of
blocks_of-disk Dos bytes long = refl
blocks_of-disk Prodos bytes long = omega (arith, long)
blocks_of-disk Nibble bytes long = refl

disk_length-Nibble : (order : Order) (bytes : ℕ) → IsImageLength order bytes → order ≡ Nibble → bytes ≡ disk_bytes order
unfolding IsImageLength
disk_length-Nibble Dos bytes long is = long
disk_length-Nibble Prodos bytes long is = cc
disk_length-Nibble Nibble bytes long is = long

pub refuses_disk : (order : Order) (image : List ℕ) (error : ImageError) → RefusesToOpen order (length image) error → RefusesDisk order image error
refuses_disk order image images.Length refused = λ long. refused (IsImageLength-disk order (length image) long)
refuses_disk order image images.Memory refused = (disk_length-Nibble order (length image) refused.0 refused.1, refused.1)
refuses_disk order image images.Number refused = refused
refuses_disk order image images.NoSector refused = refused
