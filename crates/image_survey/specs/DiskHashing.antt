-- How far the sectors or the blocks of a disk are hashed.
use Rattle.std.specs.Prelude.{◌≡◌, ◌++◌, ℕ, Bool, true, false, List, Option, Some, None, map, take}
use Rattle.std.specs.List.{concat}
use Rattle.sha2.specs.declared.Sha256.{Sha256}
use Rattle.sha2.specs.Hashers.{Holds256}

-- what stands at a place was hashed behind all that was hashed before, or it is missing
abbrev pub Hashes : Option (List ℕ) → Sha256 → Sha256 → Bool → Type 0
Hashes unit old new true =
    (content : List ℕ) × (unit ≡ Some content) × ((text : List ℕ) → Holds256 old text → Holds256 new (text ++ content))
Hashes unit old new false = unit ≡ None

-- what stands at the first places was hashed
pub record AreHashedTo (units : List (Option (List ℕ))) (many : ℕ) (hasher : Sha256) : Type 0 where
  pub contents : List (List ℕ)
  pub are : take many units ≡ map Some contents
  pub hashed : Holds256 hasher (concat contents)
