-- Which ways to read an image its length allows, and what is said of an image that is read in one of them.
use Rattle.std.proofs.Common.{◌≡◌, ℕ, true, length, refl, subst, sym, arith}
use Rattle.std.proofs.lemmas.Bool.Decides.{nat_tests}
use Rattle.a2_device.specs.declared.order.Order.{Order}
use Rattle.a2_device.specs.declared.order.Order.TheVariants as orders
use Rattle.a2_device.specs.Order.{IsImageLength, blocks_of}
use Rattle.a2_image.specs.Image.{DiskImage, HoldsSectors}
use Rattle.a2_image.specs.KeptBytes.{HoldsKept}
use Rattle.a2_image.specs.Opening.{RefusesToOpen}
use Rattle.a2_image.specs.declared.error.ImageError.{ImageError}
use Rattle.a2_image.specs.declared.error.ImageError.TheVariants as images
use Rattle.shop_jobs.specs.declared.input.FileSystem.{FileSystem}
use Rattle.shop_jobs.specs.declared.input.FileSystem.TheVariants as systems
use Rattle.shop_replies.specs.Disk.{disk_bytes}
use Rattle.shop_replies.specs.Volume.{TakesBytes, device_of}
use Rattle.image_readings.specs.IdentifyReply.{allows}
use Rattle.image_readings.specs.Readings.{IsReadingOf, IsToldOf}
use Rattle.image_readings.specs.declared.reading.Finding.{Finding}

pub allowed_takes : (bytes : ℕ) (file_system : FileSystem) (order : Order) → allows bytes (file_system, order) ≡ true → TakesBytes file_system order bytes
unfolding IsImageLength
allowed_takes bytes systems.Dos orders.Dos allowed = grind (arith, nat_tests, allowed)
allowed_takes bytes systems.Dos orders.Prodos allowed = grind (arith, nat_tests, allowed)
allowed_takes bytes systems.Dos orders.Nibble allowed = grind (arith, nat_tests, allowed)
allowed_takes bytes systems.Prodos orders.Dos allowed = grind (arith, nat_tests, allowed)
allowed_takes bytes systems.Prodos orders.Nibble allowed = grind (arith, nat_tests, allowed)
allowed_takes bytes systems.Prodos orders.Prodos allowed = (grind (arith, nat_tests, allowed), grind (arith, nat_tests, allowed), grind (arith, nat_tests, allowed))

-- an image of as many bytes as a disk's is that of a disk
pub takes_disk : (order : Order) (bytes : ℕ) → bytes ≡ disk_bytes order → blocks_of order bytes ≡ 280
unfolding blocks_of
takes_disk orders.Dos bytes is = refl
takes_disk orders.Prodos bytes is = omega (arith, is)
takes_disk orders.Nibble bytes is = refl

takes_length : (file_system : FileSystem) (order : Order) (bytes : ℕ) → TakesBytes file_system order bytes → IsImageLength order bytes
unfolding IsImageLength
takes_length systems.Dos orders.Dos bytes takes = takes
takes_length systems.Dos orders.Prodos bytes takes = (omega (arith, takes), omega (arith, takes), omega (arith, takes))
takes_length systems.Dos orders.Nibble bytes takes = takes
takes_length systems.Prodos order bytes takes = takes

-- bytes of such a length are refused for want of memory alone
pub lacks_memory : (file_system : FileSystem) (order : Order) (bytes : ℕ) (error : ImageError) → TakesBytes file_system order bytes
    → RefusesToOpen order bytes error → error ≡ images.Memory
lacks_memory file_system order bytes images.Length takes refused = absurd (refused (takes_length file_system order bytes takes))
lacks_memory file_system order bytes images.Memory takes refused = refl
lacks_memory file_system order bytes images.Number takes refused = absurd refused
lacks_memory file_system order bytes images.NoSector takes refused = absurd refused

-- what is told of an image is a reading of its bytes
pub reads_bytes : (file_system : FileSystem) (image : DiskImage) (order : Order) (finding : Finding) → order ≡ image.order
    → TakesBytes file_system image.order (length image.bytes) → HoldsSectors image.order image.bytes image.sectors
    → HoldsKept image.order image.bytes image.kept → IsToldOf file_system (device_of file_system image) finding
    → IsReadingOf image.bytes (record { file_system = file_system; order = order; finding = finding })
reads_bytes file_system image order finding is takes holds keeps told =
    subst (λ o. IsReadingOf image.bytes (record { file_system = file_system; order = o; finding = finding })) (sym is)
    (takes, image, record { in_order = refl; has_bytes = refl; holds = holds; keeps = keeps }, told)
