-- The paths of entries: the names of the directories that lead to an entry and its own, joined by slashes.
use Rattle.std.specs.Prelude.{ℕ, ◌==◌, if◌then◌else◌, List, [], ◌∷◌, ◌++◌, Option, Some, None, find, map, option_map, slice_index_or}
use Rattle.std.specs.Char.{to_ascii_uppercase}
use Rattle.pro_dir.specs.declared.entry.Entry.{Entry}
use Rattle.pro_dir.specs.Entry.{is_directory, key_of, name_of}

-- the path of a subdirectory by its key block, among some subdirectories with their key blocks and paths
abbrev pub path_at : List (ℕ × List ℕ) → ℕ → Option (List ℕ)
path_at known key = option_map (λ (directory : ℕ × List ℕ). directory.1)
    (find (λ (directory : ℕ × List ℕ). directory.0 == key) known)

-- a name in a directory; what stands in the volume's directory has its name alone
abbrev pub name_below : Option (List ℕ) → List ℕ → List ℕ
name_below None name = name
name_below (Some path) name = path ++ 0x2f ∷ name

abbrev pub path_below : List (ℕ × List ℕ) → Entry → List ℕ
path_below known entry = name_below (path_at known entry.directory) (name_of entry.bytes)

-- the paths of entries in directory order, where these subdirectories came before them, the last one first
abbrev pub paths_from : List (ℕ × List ℕ) → List Entry → List (List ℕ)
paths_from known [] = []
paths_from known (entry ∷ entries) =
    let path = path_below known entry in
    path ∷ paths_from (if is_directory entry then ((key_of entry, path) ∷ known) else known) entries

abbrev pub paths_of : List Entry → List (List ℕ)
paths_of entries = paths_from [] entries

-- a path as it is given, with its letters as capitals
abbrev pub folded : List ℕ → List ℕ
folded path = map to_ascii_uppercase path

-- the path of an entry by its number
abbrev pub path_of : List Entry → ℕ → List ℕ
path_of entries number = slice_index_or (paths_of entries) number []
