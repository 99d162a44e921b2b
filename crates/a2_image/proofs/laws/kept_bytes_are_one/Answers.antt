use Rattle.a2_image.proofs.KeptByteLemmas.{HoldsKept-one}
use Rattle.a2_image.proofs.laws.kept_bytes_are_one.Goals as goal

pub returns : goal.returns
returns c = HoldsKept-one
