use Rattle.shop_reads.specs.MapSteps.{TellsReserved}
use Rattle.shop_reads.proofs.map_states.tell_reserved.Given as goal

abbrev pub invariant-loop-place : goal.invariant-loop-place
invariant-loop-place g l = TellsReserved l.place (g.F.Format.directory l.format l.volume) l.fn.table.items l.table.items
