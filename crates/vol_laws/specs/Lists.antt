-- What a deletion does to the list of the files of a volume.
use Rattle.std.specs.Prelude.{◌≡◌, ◌<◌, ℕ, Bool, true, false, not, ◌&&◌, if◌then◌else◌, List, [], ◌∷◌}
use Rattle.vol_format.specs.Directory.{Directory, Listed, entries, entry_of, is_directory}
use Rattle.vol_format.specs.Files.{File}

-- the list without the first file whose path is one of these
abbrev pub without_first : (List ℕ → Bool) → List File → List File
without_first is_named [] = []
without_first is_named (file ∷ files) = if is_named file.path then files else (file ∷ without_first is_named files)

-- an entry is a file's, and its path is one of these
abbrev pub is_file_named : (List ℕ → Bool) → Listed → Bool
is_file_named is_named entry = not (is_directory entry) && is_named entry.path

-- the first entry, in directory order, that is a file's and has one of these paths
pub record IsFirst (is_named : List ℕ → Bool) (directory : Directory) (file : ℕ) : Type 0 where
  pub inside : file < entries directory
  pub named : is_file_named is_named (entry_of directory file) ≡ true
  pub first : (earlier : ℕ) → earlier < file → is_file_named is_named (entry_of directory earlier) ≡ false
