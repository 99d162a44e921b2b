-- Which entry is that of the directory in which an entry stands.
use Rattle.std.specs.Prelude.{◌≡◌, ℕ, zero, suc, ◌==◌, ◌&&◌, Bool, if◌then◌else◌, List, [], length, Option, Some, None, option_map, slice_index_or}
use Rattle.pro_dir.specs.declared.entry.Entry.{Entry}
use Rattle.pro_dir.specs.Entry.{is_directory, key_of}
use Rattle.pro_dir.specs.Paths.{path_of}

abbrev pub no_entry : Entry
no_entry = record { directory = 0; place = 0; slot = 0; bytes = [] }

-- an entry by its number
abbrev pub entry_in : List Entry → ℕ → Entry
entry_in entries number = slice_index_or entries number no_entry

abbrev pub leads_to : Entry → ℕ → Bool
leads_to entry key = is_directory entry && (key_of entry == key)

-- the last of the first entries, so many, that is of the directory with a key block
abbrev pub last_directory : List Entry → ℕ → ℕ → Option ℕ
last_directory entries zero key = None
last_directory entries (suc count) key =
    if leads_to (entry_in entries count) key then Some count else last_directory entries count key

abbrev pub parent_of : List Entry → ℕ → Option ℕ
parent_of entries number = last_directory entries number (entry_in entries number).directory

-- for each key block the last entry of a directory that names it is known, if there is one
abbrev pub KnowsDirectories : List Entry → List (Option ℕ) → Type 0
KnowsDirectories entries known = (key : ℕ) → slice_index_or known key None ≡ last_directory entries (length entries) key

-- the path of the directory in which an entry stands, if that is not the volume's
abbrev pub path_above : List Entry → ℕ → Option (List ℕ)
path_above entries number = option_map (path_of entries) (parent_of entries number)
