use Rattle.apple_single.proofs.Again.{read_back}
use Rattle.apple_single.proofs.law.what_is_printed_is_read.Goals as goal

pub returns : goal.returns
returns c = λ name fork info. read_back name info fork
