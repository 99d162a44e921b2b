-- A new directory and the places that it goes to.
use Rattle.std.specs.Prelude.{◌≡◌, ◌<◌, ℕ, true}
use Rattle.vol_format.specs.Directory.{Directory}
use Rattle.pro_format.specs.declared.volume.ProVolume.{ProVolume}
use Rattle.pro_format.specs.Pro.{directory_with}
use Rattle.pro_format.specs.ProVolume.{map_in, system_of, tree_of}
use Rattle.edit_formats.specs.ProNames.{is_pro_name}
use Rattle.edit_formats.specs.ProSaves.{last_name}
use Rattle.file_edits.specs.declared.directory_entering.PlacedDirectory.{PlacedDirectory}

-- what a volume that was read says
abbrev pub read_directory : {A : Type 0} → ProVolume A → Directory
read_directory volume = directory_with (system_of volume) (tree_of volume) (map_in volume).units

-- Its name is one that a file may get; its slot and its place are of a volume of so many places.
pub record IsPlacedWithin (places : ℕ) (placed : PlacedDirectory) : Type 0 where
  pub few : places < 65536
  pub name : is_pro_name (last_name placed.path.now) ≡ true
  pub slot : placed.slot.place < places
  pub directory : placed.slot.directory < places
  pub number : placed.slot.number < 13
  pub place : placed.place < places
