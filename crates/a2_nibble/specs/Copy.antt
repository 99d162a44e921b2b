-- A copy of bytes over a part of a list.
use Rattle.std.specs.Prelude.{◌≡◌, ℕ, ◌+◌, ◌<◌, ◌≤◌, ◌⊎◌, List, length, slice_index, EachIndex}

-- new is old with these bytes from a place on
pub record Copies (old new : List ℕ) (place : ℕ) (bytes : List ℕ) : Type 0 where
  pub copied : EachIndex bytes (λ k. slice_index new (place + k) ≡ slice_index bytes k)
  pub others : (q : ℕ) → (q < place) ⊎ (place + length bytes ≤ q) →
      slice_index new q ≡ slice_index old q
