-- Units that are written one behind the other.
use Rattle.std.specs.Prelude.{◌≡◌, ◌≤◌, ◌<◌, ◌⊎◌, ℕ, List, length}
use Rattle.a2_media.specs.FileDevice.{file_unit}

-- Of some bytes, the units from one place on up to another are written, each with what this says of its place; all
-- others are as they were.
pub record Filled (size : ℕ) (Is : ℕ → List ℕ → Type 0) (first past : ℕ) (old new : List ℕ) : Type 0 where
  pub long : length new ≡ length old
  pub here : (place : ℕ) → first ≤ place → place < past → Is place (file_unit size new place)
  pub others : (place : ℕ) → (place < first) ⊎ (past ≤ place) → file_unit size new place ≡ file_unit size old place
