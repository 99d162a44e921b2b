use Rattle.std.proofs.Common.{length}
use Rattle.applesoft.proofs.Texts.{SoFar}
use Rattle.applesoft.proofs.tokenizing.tokens.Given as goal

abbrev pub invariant-loop-line : goal.invariant-loop-line
invariant-loop-line g l = SoFar l.text l.program.items l.rest l.place.least l.place.address l.number

abbrev pub decreases-loop-line : goal.decreases-loop-line
decreases-loop-line g l = length l.rest
