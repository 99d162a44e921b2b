use Rattle.std.proofs.Common.{◌≤◌, ◌-◌, length, take}
use Rattle.ring_cert.specs.Reading.{AreDigits}
use Rattle.ring_cert.proofs.words.digits_at.Given as goal

abbrev pub invariant-loop-len : goal.invariant-loop-len
invariant-loop-len l = record {
  within : l.len ≤ length l.bytes;
  digits : AreDigits (take l.len l.bytes);
}

abbrev pub decreases-loop-len : goal.decreases-loop-len
decreases-loop-len l = length l.bytes - l.len
