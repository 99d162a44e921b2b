-- Tables of places.
use Rattle.std.specs.Prelude.{◌≡◌, ◌<◌, ℕ, ◌||◌, Bool, List, length, slice_index_or}
use Rattle.pro_format.specs.Pro.{is_one_of}

-- some places of a table were put to true
pub record IsMarked (places : List ℕ) (old new : List Bool) : Type 0 where
  pub size : length new ≡ length old
  pub cells : (place : ℕ) (d : Bool) → place < length old
      → slice_index_or new place d ≡ (slice_index_or old place d || is_one_of places place)
