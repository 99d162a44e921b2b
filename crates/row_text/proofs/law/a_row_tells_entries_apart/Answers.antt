use Rattle.row_text.proofs.Apart.{rows_apart}
use Rattle.row_text.proofs.law.a_row_tells_entries_apart.Goals as goal

pub returns : goal.returns
returns c = rows_apart
