use Rattle.std.proofs.Common.{◌≡◌, ◌≤◌, ◌<◌, ℕ, false}
use Rattle.pro_dir.specs.Walk.{is_met}
use Rattle.pro_dir.proofs.volume.has_map.Given as goal

abbrev pub invariant-loop-place : goal.invariant-loop-place
invariant-loop-place g l = (place : ℕ) → l.first ≤ place → place < l.place → (2 ≤ place) × (place < l.places) × (is_met l.tree.met.items place ≡ false)
