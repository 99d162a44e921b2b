use Rattle.std.proofs.Common.{◌+◌, ◌≤◌, length, vec_capacity, vec_len}
use Rattle.apple_text.proofs.SoFar.{SoFar}
use Rattle.apple_text.proofs.taken.bytes_of.Given as goal

abbrev pub invariant-loop-byte : goal.invariant-loop-byte
invariant-loop-byte g l = record {
  so_far : SoFar l.form l.text l.bytes.items l.rest l.line;
  room : vec_len l.bytes + length l.rest ≤ vec_capacity l.bytes;
}

abbrev pub decreases-loop-byte : goal.decreases-loop-byte
decreases-loop-byte g l = length l.rest
