use Rattle.host_folders.proofs.Beside.{texts_apart}
use Rattle.host_folders.proofs.law.names_of_texts_are_apart.Goals as goal

pub returns : goal.returns
returns c = texts_apart
