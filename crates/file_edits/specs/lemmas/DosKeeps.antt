-- No directory is made on a DOS 3.3 disk.
use Rattle.std.specs.Prelude.{Bool, List}
use Rattle.dos_format.specs.Dos.{dos_meaning}
use Rattle.file_edits.specs.Directories.{KeepsFiles, dos_directories}

pub dos_keeps_files : (data_disk : Bool) (reserved : List Bool) → KeepsFiles (dos_meaning data_disk reserved) dos_directories
dos_keeps_files data_disk reserved = record {
  volume = λ store path date new made. absurd made;
  files = λ store path date new made. absurd made;
  lost = λ store path date new made. absurd made;
}
