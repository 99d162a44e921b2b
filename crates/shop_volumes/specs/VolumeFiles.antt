-- What the files of a volume are, by its file system.
use Rattle.file_formats.specs.DosFiles.{dos_files}
use Rattle.file_formats.specs.Files.{FileMeaning}
use Rattle.file_formats.specs.ProFiles.{pro_files}
use Rattle.shop_jobs.specs.declared.input.FileSystem.{FileSystem}
use Rattle.shop_jobs.specs.declared.input.FileSystem.TheVariants.{Dos, Prodos}

-- how the files of a file system are named, shown and read
abbrev pub files_of : FileSystem → FileMeaning
files_of Dos = dos_files
files_of Prodos = pro_files
