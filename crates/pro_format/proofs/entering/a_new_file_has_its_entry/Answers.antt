use Rattle.pro_format.proofs.NewEntries.{entry_says}
use Rattle.pro_format.proofs.entering.a_new_file_has_its_entry.Goals as goal

pub returns : goal.returns
returns c = entry_says
