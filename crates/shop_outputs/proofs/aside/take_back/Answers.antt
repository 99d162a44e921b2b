use Rattle.shop_outputs.proofs.Taking.{taken_back}
use Rattle.shop_outputs.proofs.aside.take_back.Goals as goal

pub returns-in-Ok : goal.returns-in-Ok
returns-in-Ok g c = λ honest stands.
    taken_back _ _ _ _ _ honest (c.found_itself.ensures honest).asks.quiet stands c.remove-removed.ensures
