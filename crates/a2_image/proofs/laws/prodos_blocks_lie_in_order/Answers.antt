use Rattle.a2_image.proofs.LawLemmas.{block_in-prodos}
use Rattle.a2_image.proofs.laws.prodos_blocks_lie_in_order.Goals as goal

pub returns : goal.returns
returns c = λ image block order _ holds within. block_in-prodos image block order holds within
