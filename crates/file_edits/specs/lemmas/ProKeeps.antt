-- A directory that was made on a ProDOS volume keeps the volume accepted, its files and what is lost.
use Rattle.std.specs.Prelude.{Bool, List}
use Rattle.pro_format.specs.Pro.{pro_meaning}
use Rattle.file_edits.specs.Directories.{KeepsFiles, pro_directories}

pub pro_keeps_files : (reserved : List Bool) → KeepsFiles (pro_meaning reserved) (pro_directories reserved)
pro_keeps_files reserved = record {
  volume = λ store path date new made. (_, made.made);
  files = λ store path date new made. made.files;
  lost = λ store path date new made. made.lost;
}
