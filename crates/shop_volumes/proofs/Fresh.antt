-- The device of an image as it is opened: nothing of it can fail but what can't be read.
use Rattle.std.proofs.Common.{◌≡◌, [], refl, subst, sym}
use Rattle.std.specs.Prelude.{IsTrue, Some, None}
use Rattle.a2_device.specs.Device.{DeviceState, OnlyReads}
use Rattle.a2_image.specs.Image.{DiskImage}
use Rattle.shop_jobs.specs.declared.input.FileSystem.{FileSystem}
use Rattle.shop_replies.specs.declared.reply.Reply.{Reply}
use Rattle.shop_replies.specs.Volume.{device_of}
use Rattle.shop_replies.proofs.Lacking.{unit_lacks}
use Rattle.shop_volumes.specs.TellingFailures.{FailsForLack, tells_device}

-- it is honest, no failure is to come, and it has counted no write
pub record IsFresh (device : DeviceState) : Type 0 where
  pub honest : IsTrue device.honest
  pub reads : device.read_failures ≡ Some 0
  pub writes : device.write_failures ≡ Some []
  pub passes : device.passes ≡ None
  pub room : device.writes ≡ 0

of_image : (file_system : FileSystem) (image : DiskImage) → IsFresh (device_of file_system image)
of_image file_system image = record { honest = refl; reads = refl; writes = refl; passes = refl; room = refl }

pub image_fresh : (device : DeviceState) (file_system : FileSystem) (image : DiskImage) → device ≡ device_of file_system image → IsFresh device
image_fresh device file_system image is = subst (λ (d : DeviceState). IsFresh d) (sym is) (of_image file_system image)

-- it is told as failed for a unit that can't be read
pub fails_for_lack : (old new : DeviceState) (reply : Reply) → IsFresh old → OnlyReads (tells_device reply) old new → FailsForLack old reply
fails_for_lack old new reply fresh reads =
    λ is. unit_lacks old new fresh.honest fresh.reads (subst (λ (r : Reply). OnlyReads (tells_device r) old new) is reads)
