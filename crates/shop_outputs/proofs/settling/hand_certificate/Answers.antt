use Rattle.std.proofs.Common.{[], inr, refl, sym}
use Rattle.shop_outputs.proofs.Putting.{run_output}
use Rattle.shop_outputs.proofs.Replying.{aside_untouched, certificate_handed, certificate_none, put_untouched}
use Rattle.shop_outputs.proofs.settling.hand_certificate.Goals as goal

pub returns-in-Some-clause-handed : goal.returns-in-Some-clause-handed
returns-in-Some-clause-handed g c = λ honest untouched.
    let place = g.H.Host.place in
    certificate_handed place _ _ c.args.certificate c.put.new.self _ _ (sym c.in-Some.ensures) c.put.ensures.destination
    (c.put.ensures.held honest [] (put_untouched place c.args.certificate _ untouched)) c.put.ensures.touched

pub returns-in-Aside-clause-handed : goal.returns-in-Aside-clause-handed
returns-in-Aside-clause-handed g c = λ honest untouched.
    let place = g.H.Host.place in
    let file = c.in-Aside.file in
    let aside = aside_untouched place c.args.certificate file c.in-Aside.is untouched in
    certificate_none place _ c.args.certificate _ _ _ (sym c.in_default.ensures)
    (run_output _ c.args.certificate file _ _ c.in-Aside.is (c.discard.ensures.run honest aside)) (inr refl) tt tt
