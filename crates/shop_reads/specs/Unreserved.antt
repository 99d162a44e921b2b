-- What a format is where nothing is reserved.
use Rattle.std.specs.Prelude.{◌≡◌, ℕ, List}
use Rattle.vol_format.specs.Directory.{Directory}
use Rattle.vol_format.specs.Meaning.{Meaning}

-- Its units are as long, it takes the same volumes, and where the one reads a header, a directory and a map, so does
-- the other.
pub record IsUnreserved (units unreserved : Meaning) : Type 0 where
  pub unit_size : unreserved.unit_size ≡ units.unit_size
  pub takes : (places : ℕ) → units.Takes places → unreserved.Takes places
  pub described : (store : List (List ℕ)) (directory : Directory) → units.Describes store directory
      → (own : Directory) × unreserved.Describes store own
