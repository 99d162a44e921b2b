use Rattle.std.proofs.Common.{◌≡◌, ℕ, ◌+◌, ◌<◌, ◌/◌, length, get_or}
use Rattle.a2_nibble.proofs.codec.written_values.Given as goal

abbrev pub invariant-loop-i : goal.invariant-loop-i
invariant-loop-i l = record {
  long : length l.values ≡ 342;
  groups : (j : ℕ) → j < 86 → get_or l.values j 0 ≡ get_or l.initial.values j 0;
  done : (k : ℕ) → k < l.i → get_or l.values (86 + k) 0 ≡ get_or l.content k 0 / 4;
}
