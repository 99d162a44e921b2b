use Rattle.applesoft.proofs.Linked.{linked}
use Rattle.applesoft.proofs.law.a_tokenized_program_is_linked.Goals as goal

pub returns : goal.returns
returns c = linked
