-- A new folder of a host.
use Rattle.std.specs.Prelude.{◌≡◌, ◌<◌, ℕ, false, List, [], ◌++◌, codes, decimal}
use Rattle.host_folders.specs.Folder.{FolderState}

-- A folder of a host. Nothing is known of what was made in it: that it is honest is not proved.
abbrev pub host_folder : FolderState
host_folder = record { honest = false; made = [] }

-- a path beside that of a folder, under one of a hundred names
abbrev pub IsBeside : List ℕ → List ℕ → Type 0
IsBeside folder path = (number : ℕ) × (number < 100) × (path ≡ folder ++ codes "." ++ decimal number ++ codes ".new")
