use Rattle.std.proofs.Common.{◌≡◌, ℕ, ◌<◌, ◌≤◌, length, get_or}
use Rattle.a2_nibble.specs.Field.{IsByte}
use Rattle.a2_nibble.proofs.codec.put_third.Given as goal

abbrev pub invariant-loop-i : goal.invariant-loop-i
invariant-loop-i l = record {
  long : length l.content ≡ 256;
  done : (k : ℕ) → l.start ≤ k → k < l.i → IsByte (λ n. get_or l.values n 0) k (get_or l.content k 0);
  others : (k : ℕ) → k < l.start → get_or l.content k 0 ≡ get_or l.initial.content k 0;
}
