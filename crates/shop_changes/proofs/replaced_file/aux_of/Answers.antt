use Rattle.shop_changes.proofs.Replaced.{faulty}
use Rattle.shop_changes.proofs.replaced_file.aux_of.Goals as goal

pub returns-in-Faulty-clause-check : goal.returns-in-Faulty-clause-check
returns-in-Faulty-clause-check g c = λ honest is. faulty _ c.in-Faulty.is (c.in_ok-text.ensures.text honest)
