use Rattle.ring_cert.proofs.Boards.{TakenTo}
use Rattle.ring_cert.proofs.board.taken_places.Given as goal

abbrev pub invariant-loop-place : goal.invariant-loop-place
invariant-loop-place g l = TakenTo l.at l.places l.taken.items l.place-index
