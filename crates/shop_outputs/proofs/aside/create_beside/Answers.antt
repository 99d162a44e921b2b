use Rattle.shop_host.specs.lemmas.Runs.{run_then}
use Rattle.shop_outputs.proofs.aside.create_beside.Goals as goal

pub returns-in_err-made-clause-run : goal.returns-in_err-made-clause-run
returns-in_err-made-clause-run g c = λ honest.
    let run = c.loop-number.invariant honest in
    run_then _ _ _ _ run (c.create_under.ensures.run run.honest)

pub returns-in-Some-clause-run : goal.returns-in-Some-clause-run
returns-in-Some-clause-run g c = λ honest.
    let run = c.loop-number.invariant honest in
    run_then _ _ _ _ run (c.create_under.ensures.run run.honest)

pub loop-number-preserved : goal.loop-number-preserved
loop-number-preserved g c = λ honest.
    let run = c.loop-number.invariant honest in
    run_then _ _ _ _ run (c.create_under.ensures.run run.honest)
