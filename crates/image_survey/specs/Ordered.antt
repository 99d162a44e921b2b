-- The files of a volume in the order of their paths.
use Rattle.std.specs.Prelude.{◌≡◌, ℕ, Bool, false, List, [], Option, Some, AllPairs, Contains, count_by, is_some, length, sum_by, unwrap_or}
use Rattle.std.specs.Cmp.Lexicographic.{slice_cmp}
use Rattle.std.specs.Ordering.{is_lt, nat_cmp, ordering_then}
use Rattle.volume_compare.specs.Pairs.{path_at}
use Rattle.image_survey.specs.declared.ordered.Named.{Named}

-- how many bytes a path has; the entry of a directory is no file's, and counts none
abbrev pub path_size : Option (List ℕ) → ℕ
path_size path = length (unwrap_or path [])

abbrev pub path_bytes : List (Option (List ℕ)) → ℕ
path_bytes paths = sum_by path_size paths

-- whether a file stands before another: its path is less, byte by byte, or the same, and its entry stands before
abbrev pub is_before : Named → Named → Bool
is_before one other = is_lt (ordering_then (slice_cmp nat_cmp one.path other.path) (nat_cmp one.file other.file))

-- the file of an entry, with its path
abbrev pub IsNamed : List (Option (List ℕ)) → Named → Type 0
IsNamed paths named = path_at paths named.file ≡ Some named.path

-- The files of a volume, each once, in rising order of their paths, those of one path in the order of the directory.
pub record AreInOrder (paths : List (Option (List ℕ))) (order : List Named) : Type 0 where
  pub each : (named : Named) → Contains order named → IsNamed paths named
  pub all : (file : ℕ) (path : List ℕ) → path_at paths file ≡ Some path
      → Contains order (record { path = path; file = file })
  pub once : length order ≡ count_by is_some paths
  pub rising : AllPairs (λ named later. is_before later named ≡ false) order
