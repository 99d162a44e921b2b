use Rattle.shop_host.specs.lemmas.Runs.{look_more}
use Rattle.shop_outputs.proofs.aside.keep_standing.Goals as goal

pub returns : goal.returns
returns g c = look_more _ _ _ c.keep_owner.ensures (λ honest. (c.set_mode.ensures honest).quiet)
