use Rattle.shop_reads.proofs.PlaceTables.{part_put}
use Rattle.shop_reads.proofs.map_states.put_parts.Goals as goal

pub loop-k-preserved : goal.loop-k-preserved
loop-k-preserved c =
    part_put c.args.parts.now c.args.at.now c.args.table.items c.loop-k.table.items c.loop-k.k _ c.part_state.result c.loop-k-test.true
    (c.requires.places c.loop-k.k _ c.loop-k-test.true) c.part_state.ensures c.loop-k.invariant
