use Rattle.std.proofs.Common.{sym, subst}
use Rattle.applesoft.specs.Reading.{line_view}
use Rattle.applesoft.proofs.Programs.{SoFar, at_end, not_listed, step}
use Rattle.applesoft.proofs.listing.list.Goals as goal

pub loop-line-preserved : goal.loop-line-preserved
loop-line-preserved g c =
    subst (λ items. SoFar c.args.program.now items c.in-Some.more.now) (sym c.in_ok-push_line.ensures)
    (step _ _ _ (line_view c.in-Some.line) _ c.loop-line.invariant c.in-Some.ensures.some)

pub returns-in-Some-behind_end-clause-listed : goal.returns-in-Some-behind_end-clause-listed
returns-in-Some-behind_end-clause-listed g c = at_end _ _ _ _ c.loop-line.invariant c.in-Some-behind_end.ensures.some

pub returns-in-None-clause-form : goal.returns-in-None-clause-form
returns-in-None-clause-form g c same = not_listed _ _ _ c.loop-line.invariant c.in-None.ensures.none c.in_default.ensures.none
