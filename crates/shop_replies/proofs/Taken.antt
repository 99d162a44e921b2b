-- Which bytes are not taken as the image of a volume.
use Rattle.std.proofs.Common.{ℕ, List, length}
use Rattle.a2_device.specs.declared.order.Order.{Order}
use Rattle.a2_image.specs.declared.error.ImageError.{ImageError}
use Rattle.a2_image.specs.declared.error.ImageError.TheVariants as images
use Rattle.a2_image.specs.Opening.{RefusesToOpen}
use Rattle.shop_jobs.specs.declared.input.FileSystem.TheVariants.{Dos as Dos_volume, Prodos as Prodos_volume}
use Rattle.shop_replies.specs.Disk.{RefusesDisk}
use Rattle.shop_replies.specs.Volume.{RefusesBytes}

pub refuses_bytes : (order : Order) (bytes : List ℕ) (error : ImageError) → RefusesToOpen order (length bytes) error → RefusesBytes Prodos_volume order (length bytes) error
refuses_bytes order bytes images.Length refused = refused
refuses_bytes order bytes images.Memory refused = refused.1
refuses_bytes order bytes images.Number refused = refused
refuses_bytes order bytes images.NoSector refused = refused

pub refuses_bytes-disk : (order : Order) (bytes : List ℕ) (error : ImageError) → RefusesDisk order bytes error → RefusesBytes Dos_volume order (length bytes) error
refuses_bytes-disk order bytes images.Length refused = refused
refuses_bytes-disk order bytes images.Memory refused = refused.1
refuses_bytes-disk order bytes images.Number refused = refused
refuses_bytes-disk order bytes images.NoSector refused = refused
