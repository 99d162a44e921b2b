-- Paths, and the folders that they are in.
use Rattle.std.specs.Prelude.{◌≡◌, ◌≢◌, ◌⊎◌, [], ◌++◌, codes, if◌then◌else◌, slice_index, ◌==◌}
use Rattle.std.specs.Path.{HasNoSlash, slash, with_separator}
use Rattle.shop_host.specs.State.{Path}

-- A path is that of a name in a folder: behind the last slash, or in the folder of the program where there is none.
abbrev pub IsIn : Path → Path → Path → Type 0
IsIn folder name path = HasNoSlash name × (((path ≡ name) × (folder ≡ codes "."))
    ⊎ ((path ≡ codes "/" ++ name) × (folder ≡ codes "/"))
    ⊎ ((path ≡ folder ++ codes "/" ++ name) × (folder ≢ [])))

-- the path of a name in a folder, with one slash between them
abbrev pub in_folder : Path → Path → Path
in_folder folder name = with_separator folder ++ name

-- the path that a link in a folder leads to by what stands in it: from the root on, or from the folder on
abbrev pub behind : Path → Path → Path
behind folder to = if slice_index to 0 == slash then to else folder ++ codes "/" ++ to
