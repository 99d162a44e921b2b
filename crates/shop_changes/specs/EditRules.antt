-- What a format of volumes is to what changes one.
use Rattle.std.specs.Prelude.{Bool, List}
use Rattle.vol_format.specs.Meaning.{Meaning}
use Rattle.file_formats.specs.Files.{FileMeaning}
use Rattle.edit_formats.specs.Edits.{EditMeaning}
use Rattle.edit_formats.specs.Erasing.{EraseMeaning}
use Rattle.edit_formats.specs.Names.{NameMeaning}
use Rattle.edit_formats.specs.DosEdits.{dos_edits}
use Rattle.edit_formats.specs.DosErasing.{dos_erasures}
use Rattle.edit_formats.specs.DosNames.{dos_names}
use Rattle.edit_formats.specs.ProEdits.{pro_edits}
use Rattle.edit_formats.specs.ProErasing.{pro_erasures}
use Rattle.edit_formats.specs.ProNames.{pro_names}
use Rattle.file_edits.specs.Directories.{DirectoryMeaning, dos_directories, pro_directories}
use Rattle.edit_formats.specs.Saves.{SaveMeaning}
use Rattle.edit_formats.specs.DosSaves.{dos_saves}
use Rattle.edit_formats.specs.ProSaves.{pro_saves}
use Rattle.shop_jobs.specs.declared.input.FileSystem.{FileSystem}
use Rattle.shop_jobs.specs.declared.input.FileSystem.TheVariants.{Dos, Prodos}
use Rattle.shop_jobs.specs.declared.input.VolumeOptions.{VolumeOptions}
use Rattle.shop_replies.specs.Volume.{meaning_of}
use Rattle.shop_volumes.specs.VolumeFiles.{files_of}

-- how an entry of it is locked, named and erased, and how one is entered
pub record EditRules : Type 1 where
  pub lock : EditMeaning
  pub name : NameMeaning
  pub erase : EraseMeaning
  pub save : SaveMeaning

abbrev pub edit_rules : EditMeaning → NameMeaning → EraseMeaning → SaveMeaning → EditRules
edit_rules lock name erase save = record { lock = lock; name = name; erase = erase; save = save }

-- how the entries of a file system are changed
abbrev pub edits_of : FileSystem → EditRules
edits_of Dos = edit_rules dos_edits dos_names dos_erasures dos_saves
edits_of Prodos = edit_rules pro_edits pro_names pro_erasures pro_saves

-- the directories of a volume on which these places are reserved
abbrev pub directories_of : FileSystem → List Bool → DirectoryMeaning
directories_of Dos reserved = dos_directories
directories_of Prodos reserved = pro_directories reserved

-- its files, its directories, how its entries are changed, and what its units mean
pub record ChangedMeaning : Type 1 where
  pub files : FileMeaning
  pub directories : DirectoryMeaning
  pub edits : EditRules
  pub units : Meaning

-- that of a volume of a file system, which may be a data disk, where these places are reserved
abbrev pub changed_in : FileSystem → Bool → List Bool → ChangedMeaning
changed_in file_system data_disk reserved = record {
  files = files_of file_system;
  directories = directories_of file_system reserved;
  edits = edits_of file_system;
  units = meaning_of file_system data_disk reserved;
}

-- that of a volume that is read so, where these places are reserved
abbrev pub changed_by : VolumeOptions → List Bool → ChangedMeaning
changed_by volume reserved = changed_in volume.file_system volume.data_disk reserved
