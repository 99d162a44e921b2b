use Rattle.round_trip.proofs.Whole.{whole}
use Rattle.round_trip.proofs.law.an_extraction_is_planned_as_it_was.Goals as goal

pub returns : goal.returns
returns c = λ e folder is same are may. whole c.an_entry_makes_one_step.ensures e is folder same are may
