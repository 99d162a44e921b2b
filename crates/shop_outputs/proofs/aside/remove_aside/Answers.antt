use Rattle.shop_outputs.proofs.Steps.{run_remove, same_removed, gone_removed}
use Rattle.shop_outputs.proofs.aside.remove_aside.Goals as goal

pub returns-clause-run : goal.returns-clause-run
returns-clause-run g c = λ honest. run_remove _ _ _ _ (c.remove-removed.ensures honest)

pub returns-clause-gone : goal.returns-clause-gone
returns-clause-gone g c = λ honest. gone_removed _ _ _ _ (c.remove-removed.ensures honest)

pub returns-clause-same : goal.returns-clause-same
returns-clause-same g c = λ honest. same_removed _ _ _ _ (c.remove-removed.ensures honest)
