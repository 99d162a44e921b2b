use Rattle.std.proofs.Common.{◌≡◌, ℕ, ◌<◌, length, get_or}
use Rattle.std.specs.Prelude.{bit_xor}
use Rattle.a2_nibble.specs.DiskBytes.{value_of}
use Rattle.a2_nibble.specs.Written.{written_value}
use Rattle.a2_nibble.proofs.FieldLemmas.{before_value}
use Rattle.a2_nibble.proofs.codec.encode_sector.Given as goal

abbrev pub invariant-loop-k : goal.invariant-loop-k
invariant-loop-k l = record {
  long : length l.field ≡ 343;
  small : l.before < 64;
  before : l.before ≡ before_value l.content l.k;
  done : (j : ℕ) → j < l.k → value_of (get_or l.field j 0) ≡ bit_xor (written_value l.content j) (before_value l.content j);
}
