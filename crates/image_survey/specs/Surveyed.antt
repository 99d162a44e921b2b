-- What is found of the bytes of a file.
use Rattle.std.specs.Prelude.{◌≡◌, ◌+◌, ◌⊎◌, ℕ, Bool, true, false, List, Option, Some, None, length, slice_range}
use Rattle.sha2.specs.Sha256.{sha256}
use Rattle.a2_device.specs.declared.order.Order.{Order}
use Rattle.a2_device.specs.declared.order.Order.TheVariants as orders
use Rattle.a2_image.specs.Image.{DiskImage}
use Rattle.disk_container.specs.Container.{IsContainer}
use Rattle.disk_container.specs.Format.{BeginsLikeContainer}
use Rattle.disk_container.specs.declared.container.Container.{Container}
use Rattle.file_formats.specs.DosFiles.{dos_files}
use Rattle.file_formats.specs.Files.{FileMeaning}
use Rattle.file_formats.specs.ProFiles.{pro_files}
use Rattle.shop_jobs.specs.declared.input.FileSystem.{FileSystem}
use Rattle.shop_jobs.specs.declared.input.FileSystem.TheVariants.{Dos, Prodos}
use Rattle.shop_replies.specs.Volume.{IsImageOf, OfVolume, form_of}
use Rattle.image_readings.specs.BestReading.{IsChoice}
use Rattle.image_readings.specs.IdentifyReply.{allows}
use Rattle.image_readings.specs.Readings.{plain_meaning}
use Rattle.image_readings.specs.declared.best.Choice.{Choice}
use Rattle.image_readings.specs.declared.best.Choice.TheVariants as choices
use Rattle.image_survey.specs.Disk.{IsDiskDigest}
use Rattle.image_survey.specs.Facts.{AreFacts}
use Rattle.image_survey.specs.declared.facts.VolumeFacts.{VolumeFacts}
use Rattle.image_survey.specs.declared.surveyed.BestReading.{BestReading}
use Rattle.image_survey.specs.declared.surveyed.ImageFile.{ImageFile}
use Rattle.image_survey.specs.declared.surveyed.ImageVerdict.{ImageVerdict}
use Rattle.image_survey.specs.declared.surveyed.ImageVerdict.TheVariants as verdicts
use Rattle.image_survey.specs.declared.surveyed.Surveyed.{Surveyed}
use Rattle.image_survey.specs.declared.surveyed.Surveyed.TheVariants.{Image, Other, Unread}

-- how the files of a file system are shown and read
abbrev pub files_of : FileSystem → FileMeaning
files_of Dos = dos_files
files_of Prodos = pro_files

-- an image has 16 to 65,535 blocks; the lengths of disks in every order are among these
abbrev pub is_image_length : ℕ → Bool
is_image_length bytes = allows bytes (Prodos, orders.Prodos)

-- ---- containers

-- the order that the header of a container says
abbrev pub is_order : Order → Order → Bool
is_order orders.Dos orders.Dos = true
is_order orders.Dos orders.Prodos = false
is_order orders.Dos orders.Nibble = false
is_order orders.Prodos orders.Dos = false
is_order orders.Prodos orders.Prodos = true
is_order orders.Prodos orders.Nibble = false
is_order orders.Nibble orders.Dos = false
is_order orders.Nibble orders.Prodos = false
is_order orders.Nibble orders.Nibble = true

abbrev pub agrees : Option Order → Order → Bool
agrees None order = true
agrees (Some said) order = is_order said order

-- The image in a file: of a container its payload, in the order that the header says, else all bytes.
abbrev pub IsPayload : List ℕ → Option Order → List ℕ → Type 0
IsPayload bytes None payload =
    (¬ BeginsLikeContainer bytes) × (is_image_length (length bytes) ≡ true) × (payload ≡ bytes)
IsPayload bytes (Some order) payload =
    (container : Container) × IsContainer bytes container × (container.order ≡ order)
    × (payload ≡ slice_range bytes container.start (container.start + container.size))

abbrev pub is_container : Option Order → Bool
is_container None = false
is_container (Some order) = true

-- ---- images

-- what is told of the volume that an image has in this way to read it
abbrev pub AreFactsIn : List ℕ → FileSystem → Order → VolumeFacts → Type 0
AreFactsIn payload file_system order facts =
    OfVolume file_system order payload
    (λ device. AreFacts (form_of file_system) (files_of file_system) (plain_meaning file_system) device facts)

-- the digest of the disk that an image in this order has
abbrev pub IsDiskIn : List ℕ → Order → Option (List ℕ) → Type 0
IsDiskIn payload order disk = (image : DiskImage) × IsImageOf order payload image × IsDiskDigest image disk

pub record IsBest (payload : List ℕ) (file_system : FileSystem) (order : Order) (best : BestReading) : Type 0 where
  pub in_system : best.file_system ≡ file_system
  pub in_order : best.order ≡ order
  pub facts : AreFactsIn payload file_system order best.facts
  pub disk : IsDiskIn payload order best.disk

-- the best reading, where the header of a container says no other order
abbrev pub IsVerdictBy : List ℕ → Bool → Choice → ImageVerdict → Type 0
IsVerdictBy payload true (choices.Way file_system order) (verdicts.Best best) = IsBest payload file_system order best
IsVerdictBy payload false (choices.Way file_system order) verdicts.Ambiguous = Unit {0}
IsVerdictBy payload same choices.Ambiguous verdicts.Ambiguous = Unit {0}
IsVerdictBy payload same choices.Unknown verdicts.NoVolume = Unit {0}
IsVerdictBy payload same choice verdict = ⊥

abbrev pub agreed : Option Order → Choice → Bool
agreed said (choices.Way file_system order) = agrees said order
agreed said choice = true

-- what is found of the image in a file
pub record IsImageVerdict (payload : List ℕ) (said : Option Order) (verdict : ImageVerdict) : Type 0 where
  pub choice : Choice
  pub is_choice : IsChoice None None payload choice
  pub is_verdict : IsVerdictBy payload (agreed said choice) choice verdict

-- ---- files

-- a file with an image: the digest of all its bytes, whether it is a container, and what is found of the image
pub record IsImageFile (bytes : List ℕ) (image : ImageFile) : Type 0 where
  pub digest : image.sha256 ≡ sha256 bytes
  pub said : Option Order
  pub payload : List ℕ
  pub is_payload : IsPayload bytes said payload
  pub shell : image.container ≡ is_container said
  pub verdict : IsImageVerdict payload said image.verdict

-- no image: it begins as a container does and is none, or no image has its length
abbrev pub IsOther : List ℕ → Type 0
IsOther bytes =
    (BeginsLikeContainer bytes × ((container : Container) → ¬ IsContainer bytes container))
    ⊎ ((¬ BeginsLikeContainer bytes) × (is_image_length (length bytes) ≡ false))

abbrev pub IsSurveyed : List ℕ → Surveyed → Type 0
IsSurveyed bytes (Image image) = IsImageFile bytes image
IsSurveyed bytes Other = IsOther bytes
IsSurveyed bytes Unread = ⊥
