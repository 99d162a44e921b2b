use Rattle.std.proofs.Common.{◌-◌, length}
use Rattle.vol_layout.proofs.RingPaths.{IsPath}
use Rattle.move_plan.proofs.ring.ring_from.Given as goal

abbrev pub invariant-loop-next : goal.invariant-loop-next
invariant-loop-next g l = IsPath l.at l.first l.parts.items l.next

abbrev pub decreases-loop-next : goal.decreases-loop-next
decreases-loop-next g l = length l.at - length l.parts.items
