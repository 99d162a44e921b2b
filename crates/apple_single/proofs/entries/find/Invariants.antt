use Rattle.std.proofs.Common.{length}
use Rattle.apple_single.proofs.Finding.{Passed}
use Rattle.apple_single.proofs.entries.find.Given as goal

abbrev pub invariant-loop-entry : goal.invariant-loop-entry
invariant-loop-entry l = Passed l.table l.rest l.id

abbrev pub decreases-loop-entry : goal.decreases-loop-entry
decreases-loop-entry l = length l.rest
