use Rattle.host_folders.proofs.One.{one_folder}
use Rattle.host_folders.proofs.read_back.a_host_name_says_one_folder.Goals as goal

pub returns : goal.returns
returns c = one_folder
