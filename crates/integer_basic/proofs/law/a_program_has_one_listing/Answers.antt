use Rattle.integer_basic.proofs.Programs.{one_text}
use Rattle.integer_basic.proofs.law.a_program_has_one_listing.Goals as goal

pub returns : goal.returns
returns c = one_text
