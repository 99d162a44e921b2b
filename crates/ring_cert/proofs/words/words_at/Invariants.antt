use Rattle.std.proofs.Common.{length}
use Rattle.ring_cert.specs.Reading.{HasWords}
use Rattle.ring_cert.proofs.words.words_at.Given as goal

abbrev pub invariant-loop-number : goal.invariant-loop-number
invariant-loop-number g l = HasWords l.bytes l.numbers.items l.rest

abbrev pub decreases-loop-number : goal.decreases-loop-number
decreases-loop-number g l = length l.rest
