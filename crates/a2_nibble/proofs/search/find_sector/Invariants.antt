use Rattle.std.proofs.Common.{ℕ, ◌<◌}
use Rattle.a2_nibble.specs.Sector.{IsFieldFrom}
use Rattle.a2_nibble.proofs.search.find_sector.Given as goal

abbrev pub invariant-loop-place : goal.invariant-loop-place
invariant-loop-place l = (q : ℕ) → q < l.place → (v d : ℕ) → IsFieldFrom l.nibbles l.track l.sector q v d → ⊥
