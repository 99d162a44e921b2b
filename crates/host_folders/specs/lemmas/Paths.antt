-- Safe paths as they are built.
use Rattle.std.specs.Prelude.{ℕ, List, ◌++◌, codes}
use Rattle.host_folders.specs.Path.{IsSafeName, IsSafePath, only, below}

-- a single safe name is a safe path
pub safe_path-name : (name : List ℕ) → IsSafeName name → IsSafePath name
safe_path-name name safe = only name safe

-- a safe path, "/" and a safe name is one
pub safe_path-below : (parent name : List ℕ) → IsSafePath parent → IsSafeName name → IsSafePath (parent ++ codes "/" ++ name)
safe_path-below parent name path safe = below parent name path safe
