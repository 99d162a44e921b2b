use Rattle.folder_adding.proofs.Shown.{told_as_listed}
use Rattle.folder_adding.proofs.law.a_saved_file_is_told_as_it_is_listed.Goals as goal

pub returns : goal.returns
returns c = told_as_listed
