use Rattle.shop_outputs.specs.Asides.{destination_of}
use Rattle.shop_outputs.proofs.Steps.{made_aside, run_aside}
use Rattle.shop_outputs.proofs.aside.AsideFile.discard.Goals as goal

pub returns-in-Some-clause-run : goal.returns-in-Some-clause-run
returns-in-Some-clause-run g c = λ honest aside.
    let (same, is) = made_aside g.H.Host.place c.args.self _ c.in-Some.is aside in
    run_aside (destination_of c.args.self) _ _ _ _ c.as_str.ensures.value is (c.remove_aside.ensures.run honest)
