use Rattle.apple_single.proofs.Finding.{found, missing, step}
use Rattle.apple_single.proofs.entries.find.Goals as goal

pub returns-then-entry-id-clause-some : goal.returns-then-entry-id-clause-some
returns-then-entry-id-clause-some c =
    found _ _ _ _ _ c.loop-entry.invariant c.in-Some.ensures.some c.if-entry-id.true

pub loop-entry-preserved : goal.loop-entry-preserved
loop-entry-preserved c = step _ _ _ _ _ c.loop-entry.invariant c.in-Some.ensures.some c.if-entry-id.false

pub returns-clause-none : goal.returns-clause-none
returns-clause-none c = missing _ _ _ c.loop-entry.invariant c.in_default.ensures.none
