use Rattle.ring_cert.proofs.Weighing.{WeighedTo}
use Rattle.ring_cert.proofs.verifying.weigh_rings.Given as goal

abbrev pub invariant-loop-index : goal.invariant-loop-index
invariant-loop-index g l = WeighedTo l.at l.rings l.seen l.broken l.index
