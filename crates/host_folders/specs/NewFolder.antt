-- The paths that a folder may have that is to be made.
use Rattle.std.specs.Prelude.{◌≡◌, ◌⊎◌, ◌==◌, ◌-◌, ℕ, List, [], IsTrue, codes, length, nat_eq, take}
use Rattle.std.specs.List.{ends_with, suffix_len}

-- a path without the slashes at its end
abbrev pub without_last_slashes : List ℕ → List ℕ
without_last_slashes path = take (length path - suffix_len (λ byte. byte == 47) path) path

-- a path ends in this text
abbrev pub EndsWith : List ℕ → List ℕ → Type 0
EndsWith path text = IsTrue (ends_with nat_eq path text)

-- a path without slashes at its end names no new folder: it is empty, or its last name is "." or ".."
abbrev pub NamesNoFolder : List ℕ → Type 0
NamesNoFolder path =
    (path ≡ []) ⊎ (path ≡ codes ".") ⊎ (path ≡ codes "..") ⊎ EndsWith path (codes "/.") ⊎ EndsWith path (codes "/..")

-- the path of a folder that is to be made
pub record IsFolderName (path : List ℕ) : Type 0 where
  pub unslashed : without_last_slashes path ≡ path
  pub named : ¬ NamesNoFolder path
