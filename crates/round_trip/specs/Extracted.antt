-- A volume that was extracted with types in the names of its files, and what the paths of its items say.
use Rattle.std.specs.Prelude.{◌≡◌, ℕ, zero, suc, List, [], ◌∷◌, ◌++◌, Option, Some, None, length}
use Rattle.a2_device.specs.Device.{DeviceState}
use Rattle.folder_adding.specs.HostPaths.{SaidDirectory, SaidPath, Text}
use Rattle.host_folders.specs.ReadBack.{entry_file}
use Rattle.host_folders.specs.declared.said.Content.{Content}
use Rattle.host_folders.specs.Folder.{Made}
use Rattle.host_folders.specs.declared.entry.Naming.TheVariants.{Naps}
use Rattle.shop_commands.specs.Extracting.{plan_for}
use Rattle.shop_jobs.specs.declared.folders.ExtractOptions.{ExtractOptions}
use Rattle.shop_jobs.specs.declared.input.VolumeOptions.{VolumeOptions}
use Rattle.vol_format.specs.Directory.{Directory, Listed, entries, entry_of}
use Rattle.volume_extract.specs.Extraction.{source_with}
use Rattle.volume_extract.specs.Items.{Item, item_at, made_in}
use Rattle.volume_extract.specs.Source.{AreItemsAt, Source, contents_at}

-- An extraction: how its volume is read and put into a folder, the directory of the volume, the device before and
-- after, and what became of the entries.
pub record Extracted : Type 0 where
  pub volume : VolumeOptions
  pub options : ExtractOptions
  pub directory : Directory
  pub device : DeviceState
  pub device_now : DeviceState
  pub items : List Item

abbrev pub source_in : Extracted → Source
source_in e = source_with (plan_for e.volume e.options) e.directory

-- The types of files stand in their names, the directory is the one that the device's store describes, and the items
-- are those of its first entries, as `extract` makes them.
pub record IsExtracted (e : Extracted) : Type 0 where
  pub named : e.options.naming ≡ Naps
  pub described : (source_in e).meaning.Describes e.device.store e.directory
  pub are_items : AreItemsAt (source_in e) e.device (contents_at (source_in e) e.device e.device_now) e.items

-- the item of a number, and the entry that it is of
abbrev pub item_in : Extracted → ℕ → Item
item_in e number = item_at e.items number

abbrev pub entry_in : Extracted → ℕ → Listed
entry_in e number = entry_of e.directory number

-- the stored names of the directories in which something stands so deep, the outermost first
abbrev pub names_above : List Item → ℕ → Option ℕ → List Text
names_above items zero above = []
names_above items (suc deep) None = []
names_above items (suc deep) (Some above) =
    names_above items deep (item_at items above).above ++ (item_at items above).entry.name ∷ []

-- the stored names of the directories in which an item stands
abbrev pub directories_of : Extracted → ℕ → List Text
directories_of e number = names_above e.items (item_in e number).depth (item_in e number).above

-- what the path of a file says: these names, and its own name, type and aux type, and what its bytes are
abbrev pub said_of : Extracted → ℕ → Content → SaidPath
said_of e number content = record {
  directories = directories_of e number;
  file = entry_file (item_in e number).entry content;
}

-- what the path of a directory says: these names, and its own
abbrev pub directory_said : Extracted → ℕ → SaidDirectory
directory_said e number = record { directories = directories_of e number; name = (item_in e number).entry.name }

-- ---- what `extract` answers

-- an extraction of all entries of a volume, of which just this was made
pub record IsWhole (e : Extracted) (volume : VolumeOptions) (options : ExtractOptions) (device device_now : DeviceState)
    (made : List Made) : Type 0 where
  pub volume_is : e.volume ≡ volume
  pub options_are : e.options ≡ options
  pub device_is : e.device ≡ device
  pub device_now_is : e.device_now ≡ device_now
  pub is : IsExtracted e
  pub all : length e.items ≡ entries e.directory
  pub made_is : made ≡ made_in e.items
