use Rattle.std.proofs.Common.{◌≡◌, ℕ, ◌+◌, ◌<◌, get_or}
use Rattle.a2_nibble.specs.Track.{nibble_at}
use Rattle.a2_nibble.proofs.ring.stands_at.Given as goal

abbrev pub invariant-loop-k : goal.invariant-loop-k
invariant-loop-k l = (j : ℕ) → j < l.k → nibble_at l.nibbles (l.place + j) ≡ get_or l.bytes j 0
