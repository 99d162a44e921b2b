use Rattle.applesoft.proofs.Texts.{one_program}
use Rattle.applesoft.proofs.law.a_text_is_one_program.Goals as goal

pub returns : goal.returns
returns c = one_program
