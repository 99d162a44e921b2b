use Rattle.pro_tree.specs.lemmas.PointerLaws.{pointer-here}
use Rattle.pro_tree.proofs.laws.set_pointer_is_read.Goals as goal

pub returns : goal.returns
returns c = pointer-here
