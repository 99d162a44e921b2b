use Rattle.dos_vtoc.proofs.Next.{NoneBelow}
use Rattle.dos_vtoc.proofs.vtoc.Vtoc.next_free.Given as goal

abbrev pub invariant-loop-number : goal.invariant-loop-number
invariant-loop-number l = NoneBelow l.self l.from l.number
