use Rattle.std.proofs.Common.{◌≡◌, ℕ, ◌*◌, ◌<◌, length, get_or}
use Rattle.a2_nibble.specs.Field.{value_at, IsByte}
use Rattle.a2_nibble.proofs.codec.decode_sector.Given as goal

abbrev pub invariant-loop-third : goal.invariant-loop-third
invariant-loop-third l = record {
  long : length l.content ≡ 256;
  done : (i : ℕ) → i < 86 * l.third → i < 256 → IsByte (value_at l.field) i (get_or l.content i 0);
}
