-- A volume whose files are put into a folder.
use Rattle.std.specs.Prelude.{◌<◌, ◌⊎◌, ℕ, List, Option, IsTrue, length}
use Rattle.a2_device.specs.Device.{DeviceState}
use Rattle.vol_layout.specs.declared.form.PlaceForm.{PlaceForm}
use Rattle.vol_format.specs.Directory.{Directory, Listed}
use Rattle.vol_format.specs.Meaning.{Meaning}
use Rattle.file_formats.specs.Files.{FileMeaning}
use Rattle.file_cmds.specs.ReadingOn.{FailedInFile}
use Rattle.host_folders.specs.declared.entry.Naming.{Naming}
use Rattle.volume_compare.specs.Contents.{SeenVolume, volume_in}
use Rattle.volume_extract.specs.Items.{AreItems, Contents, IsAbove, IsNamed, IsNext, Item, contents_of, contents_where, depth_below}
use Rattle.volume_extract.specs.declared.texts.Texts.{Texts}

-- What its places are called, how its entries are named, what becomes of readable forms, what its files are, what its
-- units mean, which own name an entry's bytes say, and its directory.
pub record Source : Type 1 where
  pub form : PlaceForm
  pub naming : Naming
  pub texts : Texts
  pub files : FileMeaning
  pub meaning : Meaning
  pub own : Listed → List ℕ
  pub directory : Directory

abbrev pub source_of : PlaceForm → Naming → Texts → FileMeaning → Meaning → (Listed → List ℕ) → Directory → Source
source_of form naming texts files meaning own directory = record {
  form = form;
  naming = naming;
  texts = texts;
  files = files;
  meaning = meaning;
  own = own;
  directory = directory;
}

-- the volume that a device had
abbrev pub seen_at : Source → DeviceState → SeenVolume
seen_at source device = volume_in source.form source.files source.meaning source.directory device.store

-- what is told of its contents, where reads may have failed since
abbrev pub contents_at : Source → DeviceState → DeviceState → Contents
contents_at source device now =
    contents_of source.texts (seen_at source device) (FailedInFile source.meaning source.directory device now)

-- the same where the device is honest
abbrev pub contents_since : Source → DeviceState → DeviceState → Contents
contents_since source device now = contents_where (IsTrue device.honest) (contents_at source device now)

abbrev pub AreItemsAt : Source → DeviceState → Contents → List Item → Type 0
AreItemsAt source device contents items = AreItems (seen_at source device) source.own contents source.naming items

abbrev pub IsNextAt : Source → DeviceState → Contents → List Item → Item → Type 0
IsNextAt source device contents items item = IsNext (seen_at source device) source.own contents source.naming items item

-- an entry is named by a path of more than 1,024 bytes
pub record HasLongPath (source : Source) (device : DeviceState) (contents : Contents) (items : List Item) : Type 0 where
  pub item : Item
  pub named : IsNamed (seen_at source device) source.own contents source.naming items item
  pub long : 1024 < length item.host

-- it stands in more than 64 directories
pub record StandsTooDeep (source : Source) (items : List Item) : Type 0 where
  pub above : Option ℕ
  pub is_above : IsAbove source.own source.directory (length items) above
  pub deep : 64 < depth_below items above

-- The entry behind these items is too deep. That it stands in too many directories is known before it is named, and
-- that its path is too long before its file is read, unless its name tells the address of a file.
abbrev pub IsTooDeep : Source → DeviceState → Contents → List Item → Type 0
IsTooDeep source device contents items = StandsTooDeep source items ⊎ HasLongPath source device contents items
