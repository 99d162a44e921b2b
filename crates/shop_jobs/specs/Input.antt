-- What a job reads, as contracts see it: with texts for its words.
use Rattle.std.specs.Prelude.{◌≡◌, ℕ, Bool, true, false, ◌&&◌, List, Option, Some, None, is_some, option_map, option_and_then, string_bytes}
use Rattle.a2_device.specs.declared.order.Order.{Order}
use Rattle.shop_jobs.specs.declared.input.Beside.{Beside}
use Rattle.shop_jobs.specs.declared.input.Beside.TheVariants as besides
use Rattle.shop_jobs.specs.declared.input.FileSystem.{FileSystem}
use Rattle.shop_jobs.specs.declared.input.ImageReading.{ImageReading}
use Rattle.shop_jobs.specs.declared.input.ImageReading.TheVariants as readings
use Rattle.shop_jobs.specs.declared.input.Input.{Input}
use Rattle.shop_jobs.specs.declared.input.OrderSaid.{OrderSaid}
use Rattle.shop_jobs.specs.declared.input.OrderSaid.TheVariants.{Is, ByReading, ByContainer}
use Rattle.shop_jobs.specs.declared.input.Source.{Source}
use Rattle.shop_jobs.specs.declared.input.Source.TheVariants as sources
use Rattle.shop_jobs.specs.declared.input.VolumeOptions.{VolumeOptions}
use Rattle.shop_jobs.specs.declared.input.VolumeReading.{VolumeReading}
use Rattle.shop_jobs.specs.declared.input.Ways.{Ways}

abbrev pub Text : Type 0
Text = List ℕ

-- how the volume of an image is read: its file system, or that it is to be found; its order; whether it is a data disk;
-- and the places to reserve, where they are said
pub record VolumeReadingView : Type 0 where
  pub file_system : Option FileSystem
  pub order : OrderSaid
  pub data_disk : Bool
  pub reserve : Option Text

abbrev pub volume_view : VolumeReading → VolumeReadingView
volume_view volume = record {
  file_system = volume.file_system;
  order = volume.order;
  data_disk = volume.data_disk;
  reserve = option_map string_bytes volume.reserve;
}

-- how an image is read: as bytes, as sectors in an order, or as a volume
pub data ReadingView : Type 0 where
  AsBytes : ReadingView
  AsSectors : OrderSaid → ReadingView
  AsVolume : VolumeReadingView → ReadingView

abbrev pub reading_view : ImageReading → ReadingView
reading_view readings.Bytes = AsBytes
reading_view (readings.Sectors order) = AsSectors order
reading_view (readings.Volume volume) = AsVolume (volume_view volume)

-- where the bytes of an image come from: there is none, or it comes from standard input, or from the file of a path
pub data SourceView : Type 0 where
  Nowhere : SourceView
  StandardInput : SourceView
  FromFile : Text → SourceView

abbrev pub source_view : Source → SourceView
source_view sources.Nothing = Nowhere
source_view sources.StandardInput = StandardInput
source_view (sources.File path) = FromFile (string_bytes path)

-- what is read beside the image: nothing, the file of a path, another image in an order, or the files of the folder of
-- a path
pub data BesideView : Type 0 where
  NothingBeside : BesideView
  FileBeside : Text → BesideView
  ImageBeside : SourceView → OrderSaid → BesideView
  FolderBeside : Text → BesideView

abbrev pub beside_view : Beside → BesideView
beside_view besides.Nothing = NothingBeside
beside_view (besides.File path) = FileBeside (string_bytes path)
beside_view (besides.Image source order) = ImageBeside (source_view source) order
beside_view (besides.Folder path) = FolderBeside (string_bytes path)

-- what a job reads
pub record InputView : Type 0 where
  pub image : SourceView
  pub reading : ReadingView
  pub beside : BesideView

abbrev pub input_view : Input → InputView
input_view input = record {
  image = source_view input.image;
  reading = reading_view input.reading;
  beside = beside_view input.beside;
}

-- ---- what is said of it

-- the order, where it is known
abbrev pub known_order : OrderSaid → Option Order
known_order (Is order) = Some order
known_order ByReading = None
known_order ByContainer = None

-- what a volume is read as, where its file system and its order are known
abbrev pub options_of : VolumeReadingView → Option VolumeOptions
options_of volume = option_and_then (λ file_system. option_map (λ order. record {
  file_system = file_system;
  order = order;
  data_disk = volume.data_disk;
}) (known_order volume.order)) volume.file_system

-- the same of an image that is read as a volume
abbrev pub volume_of : ReadingView → Option VolumeOptions
volume_of AsBytes = None
volume_of (AsSectors order) = None
volume_of (AsVolume volume) = options_of volume

-- the order that is said of an image, which is read in one
abbrev pub order_of : ReadingView → Option OrderSaid
order_of AsBytes = None
order_of (AsSectors order) = Some order
order_of (AsVolume volume) = Some volume.order

-- the places that the words name, to be kept for the system of a volume beside its own
abbrev pub reserve_of : ReadingView → Option Text
reserve_of AsBytes = None
reserve_of (AsSectors order) = None
reserve_of (AsVolume volume) = volume.reserve

-- the path of a file
abbrev pub path_of : SourceView → Option Text
path_of Nowhere = None
path_of StandardInput = None
path_of (FromFile path) = Some path

-- the path of the file beside the image, or of that of the other image
abbrev pub path_beside : BesideView → Option Text
path_beside NothingBeside = None
path_beside (FileBeside path) = Some path
path_beside (ImageBeside source order) = path_of source
path_beside (FolderBeside path) = None

-- the path of the folder
abbrev pub folder_of : BesideView → Option Text
folder_of NothingBeside = None
folder_of (FileBeside path) = None
folder_of (ImageBeside source order) = None
folder_of (FolderBeside path) = Some path

-- there is something whose bytes are read
abbrev pub IsRead : SourceView → Type 0
IsRead Nowhere = ⊥
IsRead StandardInput = Unit {0}
IsRead (FromFile path) = Unit {0}

-- the same beside the image: a file or another image; the files of a folder are read one at a time, and are none of it
abbrev pub IsReadBeside : BesideView → Type 0
IsReadBeside NothingBeside = ⊥
IsReadBeside (FileBeside path) = Unit {0}
IsReadBeside (ImageBeside source order) = IsRead source
IsReadBeside (FolderBeside path) = ⊥

-- ---- what is left to the images

-- nothing is
abbrev pub is_settled_order : OrderSaid → Bool
is_settled_order (Is order) = true
is_settled_order ByReading = false
is_settled_order ByContainer = false

abbrev pub is_settled_reading : ReadingView → Bool
is_settled_reading AsBytes = true
is_settled_reading (AsSectors order) = is_settled_order order
is_settled_reading (AsVolume volume) = is_some volume.file_system && is_settled_order volume.order

abbrev pub is_settled_beside : BesideView → Bool
is_settled_beside NothingBeside = true
is_settled_beside (FileBeside path) = true
is_settled_beside (ImageBeside source order) = is_settled_order order
is_settled_beside (FolderBeside path) = true

abbrev pub is_settled : InputView → Bool
is_settled input = is_settled_reading input.reading && is_settled_beside input.beside

-- the same with what was found in the place of what is left
abbrev pub settled_order : Order → OrderSaid → OrderSaid
settled_order found (Is order) = Is order
settled_order found ByReading = Is found
settled_order found ByContainer = Is found

abbrev pub settled_file_system : FileSystem → Option FileSystem → Option FileSystem
settled_file_system found (Some file_system) = Some file_system
settled_file_system found None = Some found

abbrev pub settled_volume : Ways → VolumeReadingView → VolumeReadingView
settled_volume ways volume = record {
  file_system = settled_file_system ways.file_system volume.file_system;
  order = settled_order ways.order volume.order;
  data_disk = volume.data_disk;
  reserve = volume.reserve;
}

abbrev pub settled_reading : Ways → ReadingView → ReadingView
settled_reading ways AsBytes = AsBytes
settled_reading ways (AsSectors order) = AsSectors (settled_order ways.order order)
settled_reading ways (AsVolume volume) = AsVolume (settled_volume ways volume)

abbrev pub settled_beside : Ways → BesideView → BesideView
settled_beside ways NothingBeside = NothingBeside
settled_beside ways (FileBeside path) = FileBeside path
settled_beside ways (ImageBeside source order) = ImageBeside source (settled_order ways.other_order order)
settled_beside ways (FolderBeside path) = FolderBeside path

abbrev pub settled : Ways → InputView → InputView
settled ways input = record {
  image = input.image;
  reading = settled_reading ways input.reading;
  beside = settled_beside ways input.beside;
}
