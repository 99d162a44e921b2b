use Rattle.folder_adding.proofs.OneSaid.{one_verdict}
use Rattle.folder_adding.proofs.law.an_entry_makes_one_step.Goals as goal

pub returns : goal.returns
returns c = one_verdict
