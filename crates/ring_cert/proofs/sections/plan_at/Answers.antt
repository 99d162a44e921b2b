use Rattle.ring_cert.proofs.Stops.{plan_stop, plan_found}
use Rattle.ring_cert.proofs.sections.plan_at.Goals as goal

pub returns-in_default-clause-stop : goal.returns-in_default-clause-stop
returns-in_default-clause-stop g c =
    plan_stop c.args.bytes.now c.in_ok-moves.ended.now c.in_ok-moves.moves.items c.in_ok-moves.ensures.found c.in_ok-moves.ensures.told
    c.in_ok-moves.ensures.end c.in_default.ensures

pub returns-clause-found : goal.returns-clause-found
returns-clause-found g c =
    plan_found c.args.bytes.now c.in_ok-moves.ended.now c.in-Some.rest.now c.in_ok-moves.moves.items c.in_ok-moves.ensures.found c.in-Some.ensures
