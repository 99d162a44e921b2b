-- The table of the part at each place.
use Rattle.std.specs.Prelude.{◌≡◌, ℕ, ◌<◌, List, length, slice_index, slice_index_or, Option, Some, None}

-- the table has each part at its place
abbrev pub HasParts : List ℕ → List (Option ℕ) → Type 0
HasParts at table = (k : ℕ) → k < length at → slice_index_or table (slice_index at k) None ≡ Some k

-- and nothing else
abbrev pub HasOnlyParts : List ℕ → List (Option ℕ) → Type 0
HasOnlyParts at table =
    (place k : ℕ) → slice_index_or table place None ≡ Some k → (k < length at) × (slice_index at k ≡ place)

-- a table of so many places has each part at its place, and nothing else
pub record IsTableOf (at : List ℕ) (places : ℕ) (table : List (Option ℕ)) : Type 0 where
  pub size : length table ≡ places
  pub has : HasParts at table
  pub only : HasOnlyParts at table
