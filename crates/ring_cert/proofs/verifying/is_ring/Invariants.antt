use Rattle.ring_cert.proofs.Walks.{FollowsTo}
use Rattle.ring_cert.proofs.verifying.is_ring.Given as goal

abbrev pub invariant-loop-i : goal.invariant-loop-i
invariant-loop-i l = FollowsTo l.at l.ring l.i
