use Rattle.host_folders.proofs.ReadBack.{folder_read_back}
use Rattle.host_folders.proofs.read_back.the_name_of_a_folder_is_read_back.Goals as goal

pub returns : goal.returns
returns c = folder_read_back
