use Rattle.std.proofs.Common.{length}
use Rattle.applesoft.proofs.Characters.{SoFar}
use Rattle.applesoft.proofs.codes.codes_of.Given as goal

abbrev pub invariant-loop-code : goal.invariant-loop-code
invariant-loop-code g l = SoFar l.text l.codes.items l.rest

abbrev pub decreases-loop-code : goal.decreases-loop-code
decreases-loop-code g l = length l.rest
