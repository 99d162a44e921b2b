use Rattle.host_folders.proofs.Apart.{names_apart}
use Rattle.host_folders.proofs.law.host_names_are_apart.Goals as goal

pub returns : goal.returns
returns c = names_apart
