-- What holds after some of the moves of a plan.
use Rattle.std.specs.Prelude.{◌≡◌, ℕ, ◌+◌, ◌⊎◌, List, [], ◌∷◌, length, slice_index, All, AllPairs, Any}
use Rattle.vol_layout.specs.declared.moves.Move.{Move}
use Rattle.vol_layout.specs.Layouts.{Placement, misplaced}
use Rattle.vol_layout.specs.Plans.{IsPlan, after, moved, starts_after}
use Rattle.vol_layout.specs.Rings.{IsRing, SameParts}

-- these moves lead from `start` to `now`, and have broken these rings; each other ring still stands
pub record IsUnderway (start now : Placement) (moves : List Move) (broken : List (List ℕ)) : Type 0 where
  pub legal : IsPlan start.at start.places moves
  pub reached : after start.at moves ≡ now.at
  pub places : now.places ≡ start.places
  pub count : length moves + length (misplaced now.at) ≡ length (misplaced start.at) + length broken
  pub each : All (IsRing start.at) broken
  pub once : AllPairs (λ r s. SameParts r s → ⊥) broken
  pub gone : All (λ r. IsRing now.at r → ⊥) broken
  pub left : (ring : List ℕ) → IsRing start.at ring → IsRing now.at ring ⊎ Any (SameParts ring) broken
  pub old : (ring : List ℕ) → IsRing now.at ring → IsRing start.at ring

-- the place that the last of these moves left, or else `place`
abbrev pub left_after : ℕ → List ℕ → List Move → ℕ
left_after place c [] = place
left_after place c (m ∷ ms) = left_after (slice_index c m.part) (moved c m) ms

-- how many of these moves are starts, and the place that the last one left; a number that is no place, before the first
pub record HasTrail (start : Placement) (moves : List Move) (count left : ℕ) : Type 0 where
  pub starts : starts_after start.places start.at moves ≡ count
  pub place : left_after start.places start.at moves ≡ left
