use Rattle.pro_tree.specs.lemmas.PointerLaws.{pointer-other, length-with_pointer}
use Rattle.pro_tree.proofs.laws.set_pointer_keeps_others.Goals as goal

pub returns-clause-others : goal.returns-clause-others
returns-clause-others c = pointer-other

pub returns-clause-size : goal.returns-clause-size
returns-clause-size c = λ unit number block. length-with_pointer number block unit
