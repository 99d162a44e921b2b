-- The lines of a listing of a ProDOS volume.
use Rattle.std.specs.Prelude.{ℕ, ◌+◌, ◌*◌, List, map, min, length, string_bytes}
use Rattle.pro_dir.specs.Volume.{Directory as Tree}
use Rattle.pro_format.specs.Pro.{directory_with}
use Rattle.pro_format.specs.ProVolume.{map_in, system_of, tree_of}
use Rattle.pro_format.specs.declared.volume.ProVolume.{ProVolume}
use Rattle.row_text.specs.Row.{VolumeView}
use Rattle.row_text.specs.declared.volume.FileSystem.TheVariants.{Prodos}
use Rattle.vol_format.specs.Directory.{Directory}
use Rattle.file_listings.specs.declared.pro_lines.ProLines.{ProLines}
use Rattle.row_text.specs.Shown.{shown}
use Rattle.file_listings.specs.DosText.{Text}
use Rattle.file_listings.specs.Rows.{volume_of}
use Rattle.file_listings.specs.ProText.{directory_text, entry_lines}
use Rattle.file_listings.specs.Known.{FileFacts, facts_in}
use Rattle.file_listings.specs.declared.style.Style.{Style}

-- a directory that is listed, how, and what is known of the files of its entries
pub record ListedDirectory : Type 0 where
  pub style : Style
  pub directory : Directory
  pub facts : List FileFacts

-- the directory of a volume that was read, and what is told of it
abbrev pub directory_in : {A : Type 0} → ProVolume A → Directory
directory_in volume = directory_with (system_of volume) (tree_of volume) (map_in volume).units

abbrev pub pro_volume : {A : Type 0} → ProVolume A → VolumeView
pro_volume volume = volume_of Prodos (map shown (directory_in volume).name) (directory_in volume)

-- that whose listing they are
abbrev pub listed_in : {A : Type 0} → ProLines A → ListedDirectory
listed_in lines = record {
  style = lines.style;
  directory = directory_in lines.volume;
  facts = facts_in lines.known;
}

-- its listing, and the lines of its entries
abbrev pub listed_text : ListedDirectory → Text
listed_text listed = directory_text listed.style listed.directory listed.facts

abbrev pub lines_of : ListedDirectory → List Text
lines_of listed = entry_lines listed.style listed.directory listed.facts

-- the line that was made last
abbrev pub line_in : {A : Type 0} → ProLines A → Text
line_in lines = string_bytes lines.line

-- A path has a name of 15 bytes and a slash for each directory on its way and for its file; a volume has 65,535 blocks
-- at most, and so has no more directories.
abbrev pub most_path_bytes : Tree → ℕ
most_path_bytes tree = 16 * (min (length tree.blocks) 65535 + 1)
