use Rattle.shop_outputs.proofs.Apart.{both_removed}
use Rattle.shop_outputs.proofs.settling.discard_both.Goals as goal

pub returns : goal.returns
returns g c = λ honest out certificate.
    both_removed g.H.Host.place c.args.out c.args.certificate _ _ _ (c.discard.ensures honest out) c.discard-2.ensures certificate
