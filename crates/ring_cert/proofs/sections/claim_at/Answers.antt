use Rattle.std.proofs.Common.{arith}
use Rattle.ring_cert.proofs.Stops.{claim_stop}
use Rattle.ring_cert.proofs.sections.claim_at.Goals as goal

pub returns-in_default-clause-stop : goal.returns-in_default-clause-stop
returns-in_default-clause-stop g c =
    claim_stop c.args.bytes.now c.in_ok-off.ringed.now c.in_ok-rings.bounded.now c.in_ok-off.off.items c.in_ok-rings.rings.items
    c.in_ok-off.ensures.found c.in_ok-off.ensures.small
    (c.in_ok-off.ensures.end (omega (arith, c.in_ok-off.off.ok.0, c.in_ok-off.off.ok.1, c.in_ok-off.off.small)))
    c.in_ok-rings.ensures.found c.in_ok-rings.ensures.told c.in_ok-rings.ensures.end c.in_default.ensures.none
