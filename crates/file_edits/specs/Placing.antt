-- Where a new file goes, and the writes of its parts with those that mark their places used behind them.
use Rattle.std.specs.Prelude.{◌≡◌, false, List, length, map, slice_index}
use Rattle.a2_device.specs.Device.{DeviceState}
use Rattle.vol_format.specs.Directory.{Directory}
use Rattle.vol_format.specs.Meaning.{Meaning}
use Rattle.edit_formats.specs.declared.writes.Prepared.{Prepared}
use Rattle.edit_formats.specs.Markings.{AreMarked}
use Rattle.edit_formats.specs.Prepared.{write_of}
use Rattle.edit_formats.specs.declared.target.Extent.{Extent}
use Rattle.edit_formats.specs.Saves.{SaveMeaning}
use Rattle.file_edits.specs.declared.preparing.PlacedFile.{PlacedFile}
use Rattle.file_edits.specs.Parts.{HasPartWrites}
use Rattle.file_edits.specs.Places.{first_places}

-- its parts are those that the format tells, and they have the first free places
pub record HasFirstPlaces (saves : SaveMeaning) (directory : Directory) (placed : PlacedFile) : Type 0 where
  pub parts : placed.parts.now ≡ saves.parts placed.file.stored.now
  pub places : placed.places.now ≡ first_places directory (length placed.parts.now)
  pub count : length placed.places.now ≡ length placed.parts.now

-- its size, and where it begins
abbrev pub placed_extent : PlacedFile → Extent
placed_extent placed = record {
  units = length placed.file.stored.now;
  parts = length placed.parts.now;
  first = slice_index placed.places.now 0;
}

-- a volume as it was read: what its format means, its directory, and the device that has it
pub record ReadVolume : Type 1 where
  pub format : Meaning
  pub saves : SaveMeaning
  pub directory : Directory
  pub device : DeviceState

abbrev pub read_volume : Meaning → SaveMeaning → Directory → DeviceState → ReadVolume
read_volume format saves directory device = record {
  format = format;
  saves = saves;
  directory = directory;
  device = device;
}

-- the writes of the parts, and behind them those that mark their places used
pub record HasPlacedWrites {A : Type 0} (volume : ReadVolume) (placed : PlacedFile)
    (writes : List (Prepared A)) : Type 0 where
  pub start : List (Prepared A)
  pub built : HasPartWrites volume.saves volume.format.unit_size placed.parts.now placed.places.now
      placed.file.stored.now placed.file.units.now
      (length placed.parts.now) (map write_of start)
  pub marked : AreMarked volume.format false volume.directory placed.places.now volume.device start writes
