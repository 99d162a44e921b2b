use Rattle.ring_cert.proofs.ClaimFaults.{rings_fault}
use Rattle.ring_cert.proofs.verifying.weigh_parts.Goals as goal

pub returns-clause-fault : goal.returns-clause-fault
returns-clause-fault g c =
    rings_fault c.args.at.now c.args.off.now c.args.rings.now c.weigh_rings.result (rw c.in_default.is at c.in_ok-part.ensures.found) c.weigh_rings.ensures.fault
