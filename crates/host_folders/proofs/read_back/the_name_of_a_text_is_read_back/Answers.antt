use Rattle.host_folders.proofs.ReadBack.{text_read_back}
use Rattle.host_folders.proofs.read_back.the_name_of_a_text_is_read_back.Goals as goal

pub returns : goal.returns
returns c = text_read_back
