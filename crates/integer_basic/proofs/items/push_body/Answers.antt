use Rattle.std.proofs.Common.{sym, subst}
use Rattle.integer_basic.specs.Reading.{item_view}
use Rattle.integer_basic.proofs.Showing.{SoFar, at_end, item_less, none_left, step}
use Rattle.integer_basic.proofs.items.push_body.Goals as goal

pub loop-rest-smaller : goal.loop-rest-smaller
loop-rest-smaller g c = item_less c.loop-rest.rest.now (item_view c.in-Some.item c.in-Some.more.now) c.in-Some.ensures.some

pub loop-rest-preserved : goal.loop-rest-preserved
loop-rest-preserved g c =
    subst (λ items. SoFar c.args.text.now.items c.args.body.now items c.in-Some.more.now) (sym c.in_ok-push_item.ensures)
    (step _ _ _ _ (item_view c.in-Some.item c.in-Some.more.now) c.loop-rest.invariant c.in-Some.ensures.some)

pub returns-clause-put : goal.returns-clause-put
returns-clause-put g c = at_end _ _ _ _ c.loop-rest.invariant (none_left _ _ c.is_empty.ensures c.loop-rest-test.false)
