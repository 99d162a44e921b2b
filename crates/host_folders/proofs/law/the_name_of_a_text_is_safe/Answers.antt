use Rattle.host_folders.proofs.Beside.{beside_is_safe}
use Rattle.host_folders.proofs.law.the_name_of_a_text_is_safe.Goals as goal

pub returns : goal.returns
returns c = beside_is_safe
