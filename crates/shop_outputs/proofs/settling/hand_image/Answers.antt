use Rattle.std.proofs.Common.{◌∙◌, [], Option, Some, ap, sym, ℕ, List}
use Rattle.std.specs.declared.alloc.Global.{Global}
use Rattle.std.specs.declared.vec.Vec.{Vec}
use Rattle.shop_outputs.specs.Puts.{image_bytes}
use Rattle.shop_outputs.proofs.Replying.{image_handed, put_untouched}
use Rattle.shop_outputs.proofs.settling.hand_image.Goals as goal

pub returns-clause-handed : goal.returns-clause-handed
returns-clause-handed g c = λ honest untouched.
    let place = g.H.Host.place in
    let out = c.args.out.now in
    let run = c.open.ensures.run honest in
    let held = c.open.ensures.held honest [] (put_untouched place out _ untouched) in
    let has = ap (λ (i : Option (Vec ℕ Global)). image_bytes i) c.in-Some.is
    ∙ ap (λ (l : List ℕ). Some l) (sym c.as_slice.ensures.value) in
    image_handed place _ _ out c.open.new.self c.put.new.self _ _ _ has run c.open.ensures.destination
    c.put.ensures.destination (c.put.ensures.held run.honest [] held) c.put.ensures.touched
