-- What is found of a lent image is found of the image: the units alone tell it.
use Rattle.std.proofs.Common.{◌≡◌, subst}
use Rattle.a2_device.specs.Device.{DeviceState}
use Rattle.a2_image.specs.Image.{DiskImage}
use Rattle.a2_media.specs.LentDevice.{lent_state}
use Rattle.shop_replies.specs.Volume.{device_of, kind_of}
use Rattle.shop_jobs.specs.declared.input.FileSystem.{FileSystem}
use Rattle.a2_device.specs.declared.fault.WalkError.{WalkError}
use Rattle.a2_device.specs.declared.fault.WalkError.TheVariants as walks
use Rattle.image_readings.specs.declared.reading.Found.{Found}
use Rattle.image_readings.specs.declared.reading.Standing.{Standing}
use Rattle.image_readings.specs.declared.reading.Standing.TheVariants.{Accepted, Refused}
use Rattle.image_readings.specs.Found.{Stops}
use Rattle.image_readings.specs.Readings.{IsFound, Stands, plain_meaning}

module _ (file_system : FileSystem) (image : DiskImage) where
  stands : (standing : Standing) → Stands (plain_meaning file_system) (lent_state (kind_of file_system) image 0 0) standing
      → Stands (plain_meaning file_system) (device_of file_system image) standing
  stands (Accepted files lost) are = are
  stands Refused are = are

  stops : (stop : WalkError) → Stops (plain_meaning file_system) (lent_state (kind_of file_system) image 0 0) stop
      → Stops (plain_meaning file_system) (device_of file_system image) stop
  stops (walks.Fault fault) is = is
  stops walks.Device is = is
  stops walks.Memory is = is

  pub found_lent : (device : DeviceState) (found : Found) → device ≡ lent_state (kind_of file_system) image 0 0
      → IsFound file_system device found → IsFound file_system (device_of file_system image) found
  found_lent device found is there =
      let of_lent : IsFound file_system (lent_state (kind_of file_system) image 0 0) found = subst (λ d. IsFound file_system d found) is there in
      record {
        has_entries = of_lent.has_entries;
        has_units = of_lent.has_units;
        stands = stands found.standing of_lent.stands;
      }

  pub stops_lent : (device : DeviceState) (stop : WalkError) → device ≡ lent_state (kind_of file_system) image 0 0
      → Stops (plain_meaning file_system) device stop → Stops (plain_meaning file_system) (device_of file_system image) stop
  stops_lent device stop is at = stops stop (subst (λ d. Stops (plain_meaning file_system) d stop) is at)
