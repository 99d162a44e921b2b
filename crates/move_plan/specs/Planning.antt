-- When there is no plan, and how a plan tells its rings.
use Rattle.std.specs.Prelude.{◌≡◌, ◌≢◌, ℕ, ◌<◌, ◌≤◌, List, [], length, slice_index, All, AllPairs}
use Rattle.vol_layout.specs.Layouts.{Placement, misplaced}

-- some part is misplaced, and there is no place without a part
abbrev pub LacksFreePlace : Placement → Type 0
LacksFreePlace start = (misplaced start.at ≢ []) × (length start.at ≡ start.places)

-- the ring is told from its least part
abbrev pub BeginsWithLeast : List ℕ → Type 0
BeginsWithLeast ring = All (λ k. slice_index ring 0 ≤ k) ring

-- each ring begins at a greater part than those before it
abbrev pub AreInRisingOrder : List (List ℕ) → Type 0
AreInRisingOrder rings = AllPairs (λ ring other. slice_index ring 0 < slice_index other 0) rings
