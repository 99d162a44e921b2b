use Rattle.ring_cert.specs.Certificates.{IsMoveTold, move_line}
use Rattle.ring_cert.proofs.Runs.{HasRun-more, move_found, no_move}
use Rattle.ring_cert.proofs.sections.moves_at.Goals as goal

pub loop-part-preserved : goal.loop-part-preserved
loop-part-preserved g c =
    let found = c.in-Some.ensures.found in
    let small = c.in-Some.ensures.small in
    rw c.in_ok-push.ensures.items
    (HasRun-more IsMoveTold move_line c.args.bytes.now c.loop-part.moves.items c.loop-part.rest.now _ c.in-Some.next.now c.loop-part.invariant
    (move_found c.loop-part.rest.now (record { part = c.in-Some.part; to = c.in-Some.to }) c.in-Some.next.now found) (record { part = small.0; to = small.1 }))

pub returns-clause-end : goal.returns-clause-end
returns-clause-end g c = no_move c.loop-part.rest.now c.in_default.ensures.none
