-- What a folder in memory keeps.
use Rattle.std.specs.Prelude.{string_bytes}
use Rattle.host_folders.specs.declared.memory.MadeItem.{MadeItem}
use Rattle.host_folders.specs.declared.memory.MadeItem.TheVariants.{Folder, File}
use Rattle.host_folders.specs.Folder.{Made, folder, file}

-- what an item says was made
abbrev pub made_of : {A : Type 0} → MadeItem A → Made
made_of (Folder path) = folder (string_bytes path)
made_of (File path bytes) = file (string_bytes path) bytes.items
