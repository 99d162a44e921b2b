use Rattle.shop_host.specs.lemmas.Runs.{look_both, look_more}
use Rattle.shop_outputs.proofs.target.missing.Goals as goal

pub returns-in_err-path-in-Ok : goal.returns-in_err-path-in-Ok
returns-in_err-path-in-Ok g c =
    look_both _ _ _ (look_more _ _ _ c.loop.invariant (λ honest. (c.found_itself.ensures honest).asks.quiet)) c.behind.ensures

pub returns-in-Ok-2 : goal.returns-in-Ok-2
returns-in-Ok-2 g c = look_more _ _ _ c.loop.invariant (λ honest. (c.found_itself.ensures honest).asks.quiet)

pub returns-in-Err : goal.returns-in-Err
returns-in-Err g c =
    look_both _ _ _ (look_more _ _ _ c.loop.invariant (λ honest. (c.found_itself.ensures honest).asks.quiet)) c.new_place.ensures

pub returns-in-Err-2 : goal.returns-in-Err-2
returns-in-Err-2 g c = look_more _ _ _ c.loop.invariant (λ honest. (c.found_itself.ensures honest).asks.quiet)

pub loop-preserved : goal.loop-preserved
loop-preserved g c =
    look_both _ _ _ (look_more _ _ _ c.loop.invariant (λ honest. (c.found_itself.ensures honest).asks.quiet)) c.behind.ensures
