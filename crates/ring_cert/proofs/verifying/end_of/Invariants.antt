use Rattle.ring_cert.proofs.Walks.{ReachesTo}
use Rattle.ring_cert.proofs.verifying.end_of.Given as goal

abbrev pub invariant-loop-index : goal.invariant-loop-index
invariant-loop-index g l = ReachesTo l.layout l.now l.moves l.index
