use Rattle.applesoft.proofs.Split.{line_alone, line_first, some_left}
use Rattle.applesoft.proofs.codes.first_line.Goals as goal

pub returns-in-Some-clause-some : goal.returns-in-Some-clause-some
returns-in-Some-clause-some c = line_first _ _ _ c.in-Some.ensures.some c.without_return.ensures

pub returns-in-None-clause-some : goal.returns-in-None-clause-some
returns-in-None-clause-some c = line_alone _ (some_left _ _ c.is_empty.ensures c.if-is_empty.false) c.in-None.ensures.none
