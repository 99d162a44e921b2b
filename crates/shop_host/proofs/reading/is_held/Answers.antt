use Rattle.shop_host.specs.lemmas.Runs.{look_locked}
use Rattle.shop_host.proofs.reading.is_held.Goals as goal

pub returns-in-Ok-clause-looked : goal.returns-in-Ok-clause-looked
returns-in-Ok-clause-looked g c = λ honest. look_locked _ _ _ (c.in-Ok.ensures honest).done
