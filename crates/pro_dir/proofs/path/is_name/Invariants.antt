use Rattle.std.proofs.Common.{◌≡◌, ◌<◌, ℕ, slice_index_or}
use Rattle.pro_dir.specs.Letters.{letter}
use Rattle.pro_dir.proofs.path.is_name.Given as goal

abbrev pub invariant-loop-at : goal.invariant-loop-at
invariant-loop-at l = (k : ℕ) → k < l.at → letter l.letters (slice_index_or l.given k 0) ≡ slice_index_or l.stored k 0
