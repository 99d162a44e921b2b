use Rattle.shop_reads.specs.MapSteps.{PutsParts}
use Rattle.shop_reads.proofs.map_states.put_parts.Given as goal

abbrev pub invariant-loop-k : goal.invariant-loop-k
invariant-loop-k l = PutsParts l.k l.parts l.at l.fn.table.items l.table.items
