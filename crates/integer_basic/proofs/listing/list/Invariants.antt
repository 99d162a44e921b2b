use Rattle.std.proofs.Common.{length}
use Rattle.integer_basic.proofs.Programs.{SoFar}
use Rattle.integer_basic.proofs.listing.list.Given as goal

abbrev pub invariant-loop-rest : goal.invariant-loop-rest
invariant-loop-rest g l = SoFar l.program l.text.items l.rest

abbrev pub decreases-loop-rest : goal.decreases-loop-rest
decreases-loop-rest g l = length l.rest
