use Rattle.shop_host.specs.lemmas.Runs.{look_both}
use Rattle.shop_inputs.proofs.image.open_alone.Goals as goal

pub returns-in-Ok-true-clause-looked : goal.returns-in-Ok-true-clause-looked
returns-in-Ok-true-clause-looked g c =
    look_both _ _ _ (look_both _ _ _ c.open_usable.ensures.looked c.is_held.ensures.looked) c.leads_to.ensures.looked

pub returns-in_default-clause-looked : goal.returns-in_default-clause-looked
returns-in_default-clause-looked g c =
    look_both _ _ _ (look_both _ _ _ c.open_usable.ensures.looked c.is_held.ensures.looked) c.leads_to.ensures.looked
