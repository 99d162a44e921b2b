use Rattle.std.proofs.Common.{◌≡◌, ◌++◌, map, take, vec_capacity}
use Rattle.apple_text.specs.Shown.{low, with_high}
use Rattle.apple_text.proofs.taken.push_bytes.Given as goal

abbrev pub invariant-loop-c : goal.invariant-loop-c
invariant-loop-c g l = record {
  taken : l.bytes.items ≡ l.initial.bytes.items ++ map (λ c. with_high l.high (low c)) (take l.c-index l.front);
  room : vec_capacity l.bytes ≡ vec_capacity l.initial.bytes;
}
