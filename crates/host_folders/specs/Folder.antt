-- A folder that files are put into, as contracts see it.
use Rattle.std.specs.Prelude.{◌≡◌, ◌⊎◌, ℕ, Bool, List, [], ◌∷◌, ◌++◌, take}

-- what was made in a folder: a folder, or a file of these bytes, at a path
pub data Made : Type 0 where
  folder : (path : List ℕ) → Made
  file : (path bytes : List ℕ) → Made

-- whether the folder is honest, and all that was made in it, in order
pub record FolderState : Type 0 where
  pub honest : Bool
  pub made : List Made

-- the folder after one more folder was made in it
abbrev pub after_folder : List ℕ → FolderState → FolderState
after_folder path state = record state { made = state.made ++ folder path ∷ [] }

-- the folder after one more file was put into it
abbrev pub after_file : List ℕ → List ℕ → FolderState → FolderState
after_file path bytes state = record state { made = state.made ++ file path bytes ∷ [] }

-- the folder after a file could not be put into it: as it was, or with a file of a front of the bytes
abbrev pub IsCutShort : List ℕ → List ℕ → FolderState → FolderState → Type 0
IsCutShort path bytes old new = (new ≡ old) ⊎ ((count : ℕ) × (new ≡ after_file path (take count bytes) old))
