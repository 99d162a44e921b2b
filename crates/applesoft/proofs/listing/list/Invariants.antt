use Rattle.std.proofs.Common.{length}
use Rattle.applesoft.proofs.Programs.{SoFar}
use Rattle.applesoft.proofs.listing.list.Given as goal

abbrev pub invariant-loop-line : goal.invariant-loop-line
invariant-loop-line g l = SoFar l.program l.text.items l.rest

abbrev pub decreases-loop-line : goal.decreases-loop-line
decreases-loop-line g l = length l.rest
