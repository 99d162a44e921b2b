use Rattle.std.proofs.Common.{◌≢◌, ℕ, ◌+◌, ◌<◌}
use Rattle.a2_nibble.specs.Track.{nibble_at}
use Rattle.a2_nibble.proofs.search.data_after.Given as goal

abbrev pub invariant-loop-place : goal.invariant-loop-place
invariant-loop-place l = (k : ℕ) → l.start + k < l.place → nibble_at l.nibbles (l.start + k) ≢ 0xD5
