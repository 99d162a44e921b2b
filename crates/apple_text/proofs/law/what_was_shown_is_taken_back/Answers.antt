use Rattle.apple_text.proofs.Taking.{taken_back}
use Rattle.apple_text.proofs.law.what_was_shown_is_taken_back.Goals as goal

pub returns : goal.returns
returns c = taken_back
