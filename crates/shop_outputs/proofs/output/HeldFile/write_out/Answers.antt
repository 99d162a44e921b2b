use Rattle.shop_outputs.proofs.Steps.{run_empty, run_then_at}
use Rattle.shop_outputs.proofs.output.HeldFile.write_out.Goals as goal

pub returns-in_err-file-clause-run : goal.returns-in_err-file-clause-run
returns-in_err-file-clause-run g c = λ honest. run_empty _ _ _ _ _ (c.open_empty.ensures honest)

pub returns-clause-run : goal.returns-clause-run
returns-clause-run g c = λ honest.
    let run = run_empty _ _ _ _ _ (c.open_empty.ensures honest) in
    let opened = c.in_ok-file.ensures honest in
    run_then_at _ _ _ _ _ opened.place run (c.write_whole.ensures.run run.honest)
