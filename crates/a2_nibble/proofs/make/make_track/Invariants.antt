use Rattle.std.proofs.Common.{◌≡◌, ◌⊎◌, ℕ, ◌+◌, ◌*◌, ◌<◌, ◌≤◌, List, Some, length}
use Rattle.std.specs.Prelude.{slice_get}
use Rattle.a2_nibble.specs.Track.{nibble_at}
use Rattle.a2_nibble.specs.MadeTrack.{IsSectorAt}
use Rattle.a2_nibble.proofs.make.make_track.Given as goal

abbrev pub invariant-loop-sector : goal.invariant-loop-sector
invariant-loop-sector l = record {
  long : length l.nibbles ≡ 6656;
  gap : (q : ℕ) → q < 6656 → (q < 48) ⊎ (48 + 396 * l.sector ≤ q) → nibble_at l.nibbles q ≡ 0xFF;
  done : (p : ℕ) → p < l.sector → (content : List ℕ) → slice_get l.sectors p ≡ Some content →
      IsSectorAt l.nibbles (48 + 396 * p) l.volume l.track p content;
}
