use Rattle.host_folders.proofs.ReadBack.{file_read_back}
use Rattle.host_folders.proofs.read_back.a_host_name_is_read_back.Goals as goal

pub returns : goal.returns
returns c = file_read_back
