use Rattle.std.proofs.Common.{length}
use Rattle.applesoft.proofs.Scanning.{SoFar}
use Rattle.applesoft.proofs.items.scan.Given as goal

abbrev pub invariant-loop-rest : goal.invariant-loop-rest
invariant-loop-rest g l = SoFar l.codes l.bytes.items l.rest l.begins

abbrev pub decreases-loop-rest : goal.decreases-loop-rest
decreases-loop-rest g l = length l.rest
