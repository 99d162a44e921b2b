use Rattle.std.proofs.Common.{◌∙◌, ap}
use Rattle.shop_host.specs.State.{Files}
use Rattle.shop_outputs.proofs.Taking.{link_fails, link_refused, link_takes}
use Rattle.shop_outputs.proofs.aside.take_free_place.Goals as goal

pub returns-in-Ok : goal.returns-in-Ok
returns-in-Ok g c = λ honest bytes stands apart.
    let linked = c.in-Ok.ensures honest in
    let after = linked.noted.honest in
    link_takes _ _ bytes _ _ _ _ _ apart stands linked (c.remove_aside.ensures.run after) (c.remove_aside.ensures.same after)

pub returns-in-Err : goal.returns-in-Err
returns-in-Err g c = λ honest bytes stands apart.
    let failed = c.in-Err.ensures honest in
    let same = ap (λ (f : Files). f c.args.aside.now) failed.refused.0 in
    link_fails _ _ bytes _ _ _ _ _ stands failed (c.take_made_place.ensures failed.noted.honest bytes (same ∙ stands) apart)

pub returns-in-Err-2 : goal.returns-in-Err-2
returns-in-Err-2 g c = λ honest bytes stands apart.
    link_refused _ _ bytes _ _ _ _ stands (c.in-Err-2.ensures honest)
