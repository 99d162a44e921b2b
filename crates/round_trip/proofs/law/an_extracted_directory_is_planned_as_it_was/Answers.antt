use Rattle.round_trip.proofs.Forms.{directory_again}
use Rattle.round_trip.proofs.law.an_extracted_directory_is_planned_as_it_was.Goals as goal

pub returns : goal.returns
returns c = λ e folder number is same of. directory_again e is number of.0 of.1 folder same
