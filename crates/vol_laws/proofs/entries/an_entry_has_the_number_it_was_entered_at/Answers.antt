use Rattle.vol_laws.proofs.EntryNumbers.{entry_there, files_before_same}
use Rattle.vol_laws.proofs.Renumbered.{entries_more}
use Rattle.vol_laws.proofs.entries.an_entry_has_the_number_it_was_entered_at.Goals as goal

pub returns-clause-entry : goal.returns-clause-entry
returns-clause-entry c = entry_there

pub returns-clause-count : goal.returns-clause-count
returns-clause-count c = entries_more

pub returns-clause-files : goal.returns-clause-files
returns-clause-files c = files_before_same
