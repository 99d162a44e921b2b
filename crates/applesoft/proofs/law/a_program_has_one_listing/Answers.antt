use Rattle.applesoft.proofs.Programs.{one_text}
use Rattle.applesoft.proofs.law.a_program_has_one_listing.Goals as goal

pub returns : goal.returns
returns c = one_text
