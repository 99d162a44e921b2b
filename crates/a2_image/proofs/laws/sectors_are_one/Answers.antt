use Rattle.a2_image.proofs.LawLemmas.{HoldsSectors-one}
use Rattle.a2_image.proofs.laws.sectors_are_one.Goals as goal

pub returns : goal.returns
returns c = HoldsSectors-one
