-- What the directories of a volume have that were walked over.
use Rattle.std.specs.Prelude.{ℕ, Option}
use Rattle.pro_dir.specs.declared.volume.VolumeDir.{VolumeDir}
use Rattle.pro_dir.specs.Volume.{Directory}
use Rattle.pro_dir.specs.Walk.{kept_for}

abbrev pub directory_of : {A : Type 0} → VolumeDir A → Directory
directory_of volume = record {
  header = volume.header.bytes;
  blocks = volume.blocks.items;
  entries = volume.entries.items;
}

-- the slot that is kept for the directory with a key block
abbrev pub free_slot_of : {A : Type 0} → VolumeDir A → ℕ → Option (ℕ × ℕ)
free_slot_of volume key = kept_for volume.free.items key
