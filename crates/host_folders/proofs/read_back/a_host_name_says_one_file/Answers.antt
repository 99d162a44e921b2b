use Rattle.host_folders.proofs.One.{one_file}
use Rattle.host_folders.proofs.read_back.a_host_name_says_one_file.Goals as goal

pub returns : goal.returns
returns c = one_file
