-- How many writes a plan's moves take.
use Rattle.std.specs.Prelude.{◌≡◌, ◌≢◌, ◌≤◌, ◌<◌, ℕ, ◌+◌, ◌*◌, ◌/◌, List, [], length, slice_index, All, AllPairs, Contains}
use Rattle.vol_layout.specs.Layouts.{IsLayout, IsTarget}
use Rattle.vol_layout.specs.Plans.{IsPlan, after, starts}
use Rattle.vol_layout.specs.declared.moves.Move.{Move}
use Rattle.vol_format.specs.Directory.{Directory}
use Rattle.vol_mover.specs.Tasks.{place_of}

-- moves from a layout of available places to the target
pub record LeadsToTarget (directory : Directory) (at : List ℕ) (moves : List Move) : Type 0 where
  pub layout : IsLayout at (length directory.available)
  pub legal : IsPlan at (length directory.available) moves
  pub target : IsTarget (after at moves)

-- available places at which no part stands, each once, in the order of the map's units
pub record AreSpare (directory : Directory) (at places : List ℕ) : Type 0 where
  pub available : All (Contains directory.available) places
  pub once : AllPairs (λ place later. place ≢ later) places
  pub by_unit : AllPairs (λ place later. place / directory.map_size ≤ later / directory.map_size) places
  pub no_part : (k : ℕ) → k < length at → ¬ Contains places (place_of directory (slice_index at k))

-- Each move is a copy and a pointer. The map is changed before each move that does not follow on, and once more at the
-- end: by one write where the map has one unit, else by at most two, but the first change by at most one for each unit.
-- Without moves, what is lost is marked free.
pub record IsWork (units : ℕ) (at lost : List ℕ) (moves : List Move) (writes : ℕ) : Type 0 where
  pub one_unit : units ≡ 1 → moves ≢ [] → writes ≡ 2 * length moves + starts at moves + 1
  pub least : moves ≢ [] → 2 * length moves + starts at moves + 1 ≤ writes
  pub most : 2 ≤ units → moves ≢ [] → writes + 1 ≤ 2 * length moves + 2 * starts at moves + units
  pub no_moves : moves ≡ [] → writes ≤ units
  pub some_lost : moves ≡ [] → lost ≢ [] → 1 ≤ writes
  pub none_lost : moves ≡ [] → lost ≡ [] → writes ≡ 0
