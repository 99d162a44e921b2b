use Rattle.vol_layout.proofs.Deficits.{deficit_is_one, deficit_falls_slowly}
use Rattle.vol_layout.proofs.lower_bound.deficit_falls_slowly.Goals as goal

pub returns-clause-one : goal.returns-clause-one
returns-clause-one c = deficit_is_one

pub returns-clause-slowly : goal.returns-clause-slowly
returns-clause-slowly c = deficit_falls_slowly
