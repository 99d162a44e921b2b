-- What is told of the volume of an image.
use Rattle.std.specs.Prelude.{◌≡◌, ℕ, Option, Some, None, length}
use Rattle.a2_device.specs.Device.{DeviceState}
use Rattle.vol_layout.specs.declared.form.PlaceForm.{PlaceForm}
use Rattle.vol_format.specs.Directory.{Directory, files}
use Rattle.vol_format.specs.Meaning.{Meaning}
use Rattle.file_formats.specs.Files.{FileMeaning}
use Rattle.file_formats.specs.Listing.{free_count}
use Rattle.image_readings.specs.Readings.{Stands}
use Rattle.image_readings.specs.declared.reading.Standing.{Standing}
use Rattle.image_readings.specs.declared.reading.Standing.TheVariants.{Accepted, Refused}
use Rattle.volume_compare.specs.Contents.{volume_in}
use Rattle.image_survey.specs.Content.{IsContent}
use Rattle.image_survey.specs.declared.facts.VolumeFacts.{VolumeFacts}

-- how many places are lost; of a volume that is not accepted it is not told
abbrev pub lost_in : Standing → Option ℕ
lost_in (Accepted files lost) = Some lost
lost_in Refused = None

-- the name, how many files it has, how many places are lost and how many are marked free, and the content
pub record AreFacts (form : PlaceForm) (meaning : FileMeaning) (format : Meaning) (device : DeviceState)
    (facts : VolumeFacts) : Type 0 where
  pub directory : Directory
  pub described : format.Describes device.store directory
  pub name : facts.name ≡ directory.name
  pub file_count : facts.files ≡ length (files directory)
  pub standing : Standing
  pub stands : Stands format device standing
  pub lost : facts.lost ≡ lost_in standing
  pub free : facts.free ≡ free_count directory
  pub content : IsContent (volume_in form meaning format directory device.store) device.unreadable facts.content
