use Rattle.vol_laws.proofs.Numbered.{entry_index, number_index}
use Rattle.vol_laws.proofs.lists.a_file_has_its_index_among_the_files.Goals as goal

pub returns-clause-entry : goal.returns-clause-entry
returns-clause-entry c = entry_index

pub returns-clause-number : goal.returns-clause-number
returns-clause-number c = number_index
