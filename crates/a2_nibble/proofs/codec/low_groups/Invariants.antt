use Rattle.std.proofs.Common.{◌≡◌, ℕ, ◌+◌, ◌*◌, ◌<◌, length, get_or}
use Rattle.a2_nibble.specs.Written.{low_pair}
use Rattle.a2_nibble.proofs.codec.low_groups.Given as goal

abbrev pub invariant-loop-j : goal.invariant-loop-j
invariant-loop-j l = record {
  long : length l.groups ≡ 86;
  done : (i : ℕ) → i < l.j → get_or l.groups i 0 ≡ low_pair l.content i + 4 * low_pair l.content (i + 86) + 16 * low_pair l.content (i + 172);
}
