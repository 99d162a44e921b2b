-- The paths of what is made in a folder: safe names with a slash between each two.
use Rattle.std.specs.Prelude.{◌≢◌, ◌≤◌, ℕ, List, [], ◌++◌, length, codes, Contains}

-- A name of at most 255 bytes, none of them a slash or zero, that is neither the folder itself nor the one above.
pub record IsSafeName (name : List ℕ) : Type 0 where
  pub some : name ≢ []
  pub short : length name ≤ 255
  pub no_slash : ¬ Contains name 47
  pub no_zero : ¬ Contains name 0
  pub not_itself : name ≢ codes "."
  pub not_above : name ≢ codes ".."

-- a safe name, or one below a safe path
pub data IsSafePath : List ℕ → Type 0 where
  only : (name : List ℕ) → IsSafeName name → IsSafePath name
  below : (parent name : List ℕ) → IsSafePath parent → IsSafeName name → IsSafePath (parent ++ codes "/" ++ name)
