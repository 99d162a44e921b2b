-- The files of a volume before and after they are put into the order of their paths.
use Rattle.std.specs.Prelude.{◌≡◌, ◌<◌, ℕ, false, List, Option, Some, AllPairs, Contains, count_by, is_some, length, take}
use Rattle.volume_compare.specs.Pairs.{path_at}
use Rattle.image_survey.specs.Ordered.{IsNamed, is_before}
use Rattle.image_survey.specs.declared.ordered.Named.{Named}

-- the files of the first entries
pub record AreNamed (paths : List (Option (List ℕ))) (many : ℕ) (named : List Named) : Type 0 where
  pub each : (one : Named) → Contains named one → IsNamed paths one
  pub all : (file : ℕ) (path : List ℕ) → file < many → path_at paths file ≡ Some path
      → Contains named (record { path = path; file = file })
  pub once : length named ≡ count_by is_some (take many paths)

-- none stands behind one that it is before
abbrev pub AreSorted : List Named → Type 0
AreSorted named = AllPairs (λ one later. is_before later one ≡ false) named
