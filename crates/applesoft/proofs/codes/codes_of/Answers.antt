use Rattle.std.proofs.Common.{sym, subst}
use Rattle.applesoft.proofs.Characters.{SoFar, at_end, shows_none, step}
use Rattle.applesoft.proofs.Split.{none_left, some_left}
use Rattle.applesoft.proofs.codes.codes_of.Goals as goal

pub loop-code-preserved : goal.loop-code-preserved
loop-code-preserved g c =
    subst (λ items. SoFar c.args.text.now items c.in-Some.more.now) (sym c.in_ok-push.ensures.items)
    (step _ _ _ _ _ c.loop-code.invariant c.in-Some.ensures.some)

pub returns-then-is_empty-clause-some : goal.returns-then-is_empty-clause-some
returns-then-is_empty-clause-some g c =
    at_end _ _ _ c.loop-code.invariant (none_left _ _ c.is_empty.ensures c.if-is_empty.true)

pub returns-else-is_empty-clause-none : goal.returns-else-is_empty-clause-none
returns-else-is_empty-clause-none g c =
    shows_none _ _ _ c.loop-code.invariant (some_left _ _ c.is_empty.ensures c.if-is_empty.false) c.in_default.ensures.none
