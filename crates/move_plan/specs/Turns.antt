-- What a turn of a ring leaves.
use Rattle.std.specs.Prelude.{◌≡◌, ◌≢◌, ℕ, ◌+◌, ◌<◌, ◌≤◌, ◌⊎◌, ◌==◌, if◌then◌else◌, max, List, [], ◌∷◌, ◌++◌, length, slice_index, All, Contains}
use Rattle.vol_layout.specs.Layouts.{Placement, IsLayout, holes, misplaced}
use Rattle.vol_layout.specs.Plans.{starts}
use Rattle.vol_layout.specs.Rings.{turned}
use Rattle.move_plan.specs.declared.planner.Planner.{Planner}
use Rattle.move_plan.specs.Planning.{AreInRisingOrder, BeginsWithLeast}
use Rattle.move_plan.specs.Underway.{IsUnderway, HasTrail}
use Rattle.move_plan.specs.Runs.{IsAt}

-- a ring whose first part is aside, and of which i more parts are home
pub record IsTurning {A : Type 0} (ring : List ℕ) (old now : Planner A) (i : ℕ) : Type 0 where
  pub underway : (start : Placement) → IsAt start old
      → IsUnderway start now.now now.moves.items (old.rings.items ++ ring ∷ [])
  pub rings : now.rings.items ≡ old.rings.items
  pub spare : now.spare ≡ old.spare
  pub size : length now.now.at ≡ length old.now.at
  pub places : now.now.places ≡ old.now.places
  pub layout : IsLayout now.now.at now.now.places
  pub free : Contains now.now.at (slice_index (turned ring) i) → ⊥
  pub ahead : (j : ℕ) → i ≤ j → j + 1 < length ring
      → slice_index now.now.at (slice_index ring (j + 1)) ≡ slice_index (turned ring) (j + 1)
  pub others : (k : ℕ) → k < length old.now.at → k ≢ slice_index ring 0 → slice_index now.now.at k < length old.now.at
  pub first : slice_index now.now.at (slice_index ring 0) ≡ old.spare
  pub kept : (k : ℕ) → k < length old.now.at → slice_index old.now.at k ≡ k → slice_index now.now.at k ≡ k
  pub trail :
      (start : Placement) (count left : ℕ) → IsAt start old → HasTrail start old.moves.items count left
      → HasTrail start now.moves.items (count + (if old.spare == left then 0 else 1)) (slice_index (turned ring) i)

-- the parts of a ring are home, and so are those that were
pub record TurnsRing {A : Type 0} (ring : List ℕ) (old new : Planner A) : Type 0 where
  pub underway : (start : Placement) → IsAt start old → IsAt start new
  pub rings : new.rings.items ≡ old.rings.items ++ ring ∷ []
  pub spare : new.spare ≡ old.spare
  pub size : length new.now.at ≡ length old.now.at
  pub within : All (λ place. place < length old.now.at) new.now.at
  pub kept : (k : ℕ) → k < length old.now.at → slice_index old.now.at k ≡ k → slice_index new.now.at k ≡ k
  pub home : slice_index new.now.at (slice_index ring 0) ≡ slice_index ring 0
  pub trail :
      (start : Placement) (count left : ℕ) → IsAt start old → HasTrail start old.moves.items count left
      → HasTrail start new.moves.items (count + (if old.spare == left then 0 else 1)) new.spare

-- the parts below k are home
pub record IsTurnedTo {A : Type 0} (start : Placement) (p : Planner A) (k : ℕ) : Type 0 where
  pub underway : IsAt start p
  pub size : length p.now.at ≡ length start.at
  pub within : All (λ place. place < length start.at) p.now.at
  pub home : (j : ℕ) → j < k → slice_index p.now.at j ≡ j
  pub least : All BeginsWithLeast p.rings.items
  pub rising : AreInRisingOrder p.rings.items
  pub before : All (λ ring. slice_index ring 0 < k) p.rings.items
  pub count : ℕ
  pub left : ℕ
  pub trail : HasTrail start p.moves.items count left
  pub is : ((left ≡ p.spare) × (count ≡ max (length (holes start.at)) 1))
      ⊎ ((p.moves.items ≡ []) × (left ≡ start.places) × (length (holes start.at) ≡ 0))
  pub past : length start.at ≤ p.spare
  pub room : p.spare < start.places

-- all parts are home
pub record IsDone {A : Type 0} (start : Placement) (p : Planner A) : Type 0 where
  pub underway : IsAt start p
  pub size : length p.now.at ≡ length start.at
  pub home : (j : ℕ) → j < length start.at → slice_index p.now.at j ≡ j
  pub least : All BeginsWithLeast p.rings.items
  pub rising : AreInRisingOrder p.rings.items
  pub starts : misplaced start.at ≢ [] → starts start.at p.moves.items ≡ max (length (holes start.at)) 1
  pub past : length start.at ≤ p.spare
