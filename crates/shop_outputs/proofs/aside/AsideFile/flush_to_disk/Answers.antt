use Rattle.shop_outputs.specs.Asides.{destination_of}
use Rattle.shop_outputs.proofs.Steps.{made_aside, run_aside, run_flush}
use Rattle.shop_outputs.proofs.aside.AsideFile.flush_to_disk.Goals as goal

pub returns-in-Err-clause-run : goal.returns-in-Err-clause-run
returns-in-Err-clause-run g c = λ honest aside.
    let (same, is) = made_aside g.H.Host.place c.args.self.now _ c.in-Some-made.is aside in
    run_aside (destination_of c.args.self.now) _ _ _ _ same is (run_flush _ _ _ _ (c.flush-flushed.ensures honest))

pub returns-in_default-flushed-clause-run : goal.returns-in_default-flushed-clause-run
returns-in_default-flushed-clause-run g c = λ honest aside.
    let (same, is) = made_aside g.H.Host.place c.args.self.now _ c.in-Some-made.is aside in
    run_aside (destination_of c.args.self.now) _ _ _ _ same is (run_flush _ _ _ _ (c.flush-flushed.ensures honest))
