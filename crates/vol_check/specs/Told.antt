-- What is told of an accepted volume.
use Rattle.std.specs.Prelude.{◌≡◌, ◌≢◌, ◌<◌, ℕ, List, length, AllPairs, Contains}
use Rattle.a2_device.specs.declared.part.Part.{Part}
use Rattle.vol_layout.specs.Layouts.{Placement}
use Rattle.vol_format.specs.Directory.{Directory, entries, files}
use Rattle.vol_format.specs.Standing.{layout_of, lost_places}
use Rattle.vol_check.specs.declared.checked.Checked.{Checked}

-- how many files it has, their parts, where these stand among the available places, and which of these are lost
pub record Told : Type 0 where
  pub files : ℕ
  pub parts : List Part
  pub layout : Placement
  pub lost : List ℕ

abbrev pub told_of : {V A : Type 0} → Checked V A → Told
told_of checked = record {
  files = checked.files;
  parts = checked.parts.items;
  layout = checked.layout;
  lost = checked.lost.items;
}

abbrev pub volume_of : {V A : Type 0} → Checked V A → V
volume_of checked = checked.volume

-- All of it follows from the directory and the parts. The parts stand apart, in the volume, and are those of its
-- entries.
pub record IsToldOf (directory : Directory) (told : Told) : Type 0 where
  pub files : told.files ≡ length (files directory)
  pub layout : told.layout ≡ record { at = layout_of directory told.parts; places = length directory.available }
  pub lost : told.lost ≡ lost_places directory told.parts
  pub places : (part : Part) → Contains told.parts part → part.place < directory.places
  pub in_files : (part : Part) → Contains told.parts part → part.file < entries directory
  pub apart : AllPairs (λ part later. part.place ≢ later.place) told.parts
