use Rattle.std.proofs.Common.{length}
use Rattle.apple_single.proofs.Judging.{Judged}
use Rattle.apple_single.proofs.reading.are_sound.Given as goal

abbrev pub invariant-loop-entry : goal.invariant-loop-entry
invariant-loop-entry l = Judged l.file l.table l.rest

abbrev pub decreases-loop-entry : goal.decreases-loop-entry
decreases-loop-entry l = length l.rest
