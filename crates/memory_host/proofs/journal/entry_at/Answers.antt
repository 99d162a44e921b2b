use Rattle.std.proofs.Common.{arith, sym}
use Rattle.memory_host.proofs.Found.{found_more}
use Rattle.memory_host.proofs.journal.entry_at.Goals as goal

pub loop-item-preserved : goal.loop-item-preserved
loop-item-preserved c =
    found_more c.args.items.now c.loop-item.item-index c.item-item.result c.args.path.now c.loop-item.found c.in_ok-found.found
    (omega arith) (sym c.item-item.is) c.loop-item.invariant c.in_ok-found.ensures.content c.in_ok-found.ensures.kind
