use Rattle.std.proofs.Common.{length}
use Rattle.apple_text.proofs.Runs.{IsShownSoFar}
use Rattle.apple_text.proofs.shown.text_of.Given as goal

abbrev pub invariant-loop-rest : goal.invariant-loop-rest
invariant-loop-rest g l = IsShownSoFar l.bytes l.text.items l.rest

abbrev pub decreases-loop-rest : goal.decreases-loop-rest
decreases-loop-rest g l = length l.rest
