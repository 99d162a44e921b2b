use Rattle.disk_container.proofs.OneAnswer.{one_container}
use Rattle.disk_container.proofs.law.a_file_is_one_container.Goals as goal

pub returns : goal.returns
returns c = one_container
