use Rattle.ring_cert.proofs.Written.{HasDigits}
use Rattle.ring_cert.proofs.printing.push_number.Given as goal

abbrev pub invariant-loop-rest : goal.invariant-loop-rest
invariant-loop-rest g l = HasDigits l.number l.digits l.start l.rest

abbrev pub decreases-loop-rest : goal.decreases-loop-rest
decreases-loop-rest g l = l.rest
