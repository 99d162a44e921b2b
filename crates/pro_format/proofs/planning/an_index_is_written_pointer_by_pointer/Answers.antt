use Rattle.pro_format.proofs.Pointing.{zeros_point, pointer_skipped, pointer_written}
use Rattle.pro_format.proofs.planning.an_index_is_written_pointer_by_pointer.Goals as goal

pub returns-clause-start : goal.returns-clause-start
returns-clause-start c = zeros_point

pub returns-clause-skipped : goal.returns-clause-skipped
returns-clause-skipped c = pointer_skipped

pub returns-clause-written : goal.returns-clause-written
returns-clause-written c = pointer_written
