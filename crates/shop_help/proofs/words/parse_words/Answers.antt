use Rattle.shop_help.proofs.FaultLemmas.{asked_some}
use Rattle.shop_help.proofs.words.parse_words.Goals as goal

pub returns-in-Err-clause-taken : goal.returns-in-Err-clause-taken
returns-in-Err-clause-taken c taken = c.read_fault.ensures.memory (c.in-Err.ensures.taken taken.0 (asked_some _ taken.1))
