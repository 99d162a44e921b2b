use Rattle.std.proofs.Common.{sym, subst}
use Rattle.applesoft.specs.Reading.{item_view}
use Rattle.applesoft.proofs.Scanning.{SoFar, at_end, item_less, step}
use Rattle.applesoft.proofs.Split.{none_left}
use Rattle.applesoft.proofs.items.scan.Goals as goal

pub loop-rest-smaller : goal.loop-rest-smaller
loop-rest-smaller g c = item_less c.loop-rest.begins c.loop-rest.rest.now (item_view c.in-Some.item) c.in-Some.ensures.some

pub loop-rest-preserved : goal.loop-rest-preserved
loop-rest-preserved g c =
    subst (λ items. SoFar c.args.codes.now items c.in-Some.item.rest.now c.in-Some.item.begins) (sym c.in_ok-push_item.ensures)
    (step _ _ _ _ (item_view c.in-Some.item) c.loop-rest.invariant c.in-Some.ensures.some)

pub returns-clause-some : goal.returns-clause-some
returns-clause-some g c = at_end _ _ _ _ c.loop-rest.invariant (none_left _ _ c.is_empty.ensures c.loop-rest-test.false)
