use Rattle.round_trip.proofs.Planning.{planned_again}
use Rattle.round_trip.proofs.law.an_extracted_file_is_planned_as_it_was.Goals as goal

pub returns : goal.returns
returns c = planned_again
