use Rattle.shop_host.specs.lemmas.Runs.{look_more}
use Rattle.shop_host.proofs.streams.note.Goals as goal

pub returns-in-Ok-eq0 : goal.returns-in-Ok-eq0
returns-in-Ok-eq0 g c = look_more _ _ _ c.loop.invariant c.note.ensures.quiet

pub returns-in-Err-2 : goal.returns-in-Err-2
returns-in-Err-2 g c = look_more _ _ _ c.loop.invariant c.note.ensures.quiet

pub loop-preserved : goal.loop-preserved
loop-preserved g c = look_more _ _ _ c.loop.invariant c.note.ensures.quiet
