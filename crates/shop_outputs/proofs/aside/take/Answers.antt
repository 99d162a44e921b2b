use Rattle.shop_outputs.proofs.Taking.{fails_removed}
use Rattle.shop_outputs.proofs.aside.take.Goals as goal

pub returns-in-Err : goal.returns-in-Err
returns-in-Err g c = λ honest bytes stands apart.
    let failed = c.in-Err.ensures honest bytes stands apart in
    let after = failed.run.honest in
    fails_removed _ _ _ bytes _ _ _ _ _ apart failed (c.remove_aside.ensures.run after) (c.remove_aside.ensures.same after)
