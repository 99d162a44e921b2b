use Rattle.shop_host.specs.lemmas.Runs.{run_then}
use Rattle.shop_outputs.specs.Asides.{destination_of}
use Rattle.shop_outputs.proofs.Steps.{made_aside, run_aside, run_as}
use Rattle.shop_outputs.proofs.aside.AsideFile.write.Goals as goal

pub returns-in-Some-clause-run : goal.returns-in-Some-clause-run
returns-in-Some-clause-run g c = λ honest aside.
    let run = c.make.ensures.run honest in
    let (same, is) = made_aside g.H.Host.place c.make.new.self _ c.in-Some.is (c.make.ensures.aside honest aside) in
    run_then _ _ _ _ run (run_as _ _ _ _ c.make.ensures.destination
    (run_aside (destination_of c.make.new.self) _ _ _ _ same is (c.write_whole.ensures.run run.honest)))
