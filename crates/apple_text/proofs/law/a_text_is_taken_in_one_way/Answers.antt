use Rattle.apple_text.proofs.Taking.{one_way}
use Rattle.apple_text.proofs.law.a_text_is_taken_in_one_way.Goals as goal

pub returns : goal.returns
returns c = one_way
