-- What a ProDOS volume that was read has.
use Rattle.std.specs.Prelude.{Bool, List}
use Rattle.pro_bitmap.specs.Bitmap.{FreeMap}
use Rattle.pro_dir.specs.declared.volume.VolumeDir.{VolumeDir}
use Rattle.pro_dir.specs.Listed.{directory_of}
use Rattle.pro_dir.specs.Volume.{Directory as Tree}
use Rattle.pro_format.specs.declared.volume.ProVolume.{ProVolume}

-- what was walked over of its directories, and what this says
abbrev pub walked_of : {A : Type 0} → ProVolume A → VolumeDir A
walked_of volume = volume.directory

abbrev pub tree_of : {A : Type 0} → ProVolume A → Tree
tree_of volume = directory_of volume.directory

-- its map, and which places are the system's
abbrev pub map_in : {A : Type 0} → ProVolume A → FreeMap
map_in volume = volume.map

abbrev pub system_of : {A : Type 0} → ProVolume A → List Bool
system_of volume = volume.system.items
