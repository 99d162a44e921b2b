use Rattle.std.proofs.Common.{◌≢◌, ◌∙◌, arith, refl, rules}
use Rattle.new_volumes.proofs.InOrder.{converted, only_memory}
use Rattle.new_volumes.proofs.finishing.in_order.Goals as goal

pub returns-in-Ok-clause-made : goal.returns-in-Ok-clause-made
returns-in-Ok-clause-made c =
    let told = c.in-Ok.ensures in
    let first = told.there refl 0 0 (omega arith) (omega arith) in
    converted c.in-Ok.made c.args.image c.args.order c.args.volume _ told.order c.into_bytes-in-Ok.ensures.bytes c.order-order.ensures.long c.order-order.ensures.holds c.order-order.ensures.kept
    told.disk first.disk told.sectors told.made

pub returns-clause-refused : goal.returns-clause-refused
returns-clause-refused c =
    let other : c.args.order ≢ c.args.image.order = search rules in
    c.from.ensures ∙ only_memory c.args.image c.requires.plain (c.requires.disk other) c.order.ensures.holds c.in-Err.error c.in-Err.ensures.refused
