use Rattle.std.proofs.Common.{arith}
use Rattle.std.proofs.lemmas.Grind.{common_steps}
use Rattle.integer_basic.proofs.Numbers.{right_is}
use Rattle.integer_basic.proofs.listing.push_number.Goals as goal

pub returns : goal.returns
returns g c = grind (arith, common_steps, right_is)
