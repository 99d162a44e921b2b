use Rattle.std.proofs.Common.{arith}
use Rattle.std.proofs.lemmas.List.{take_all}
use Rattle.ring_cert.proofs.Boards.{TakenTo-more}
use Rattle.ring_cert.proofs.board.taken_places.Goals as goal

pub loop-place-preserved : goal.loop-place-preserved
loop-place-preserved g c =
    let i = c.loop-place.place-index in
    TakenTo-more c.args.at.now c.args.places c.loop-place.taken.items i c.loop-place-test.true
    (c.requires i 0 c.loop-place-test.true) c.loop-place.invariant

pub returns-clause-taken : goal.returns-clause-taken
returns-clause-taken g c =
    rw (take_all c.loop-place.place-index c.args.at.now (omega arith)) at c.loop-place.invariant.tells
