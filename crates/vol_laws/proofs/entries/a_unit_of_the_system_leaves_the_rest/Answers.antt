use Rattle.vol_laws.proofs.SystemWrites.{one_unit_rest}
use Rattle.vol_laws.proofs.entries.a_unit_of_the_system_leaves_the_rest.Goals as goal

pub returns : goal.returns
returns c = one_unit_rest
