use Rattle.apple_single.proofs.Again.{one_thing}
use Rattle.apple_single.proofs.law.a_file_says_one_thing.Goals as goal

pub returns : goal.returns
returns c = one_thing
