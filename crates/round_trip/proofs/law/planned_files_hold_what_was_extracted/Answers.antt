use Rattle.round_trip.proofs.Bodies.{bodies}
use Rattle.round_trip.proofs.law.planned_files_hold_what_was_extracted.Goals as goal

pub returns : goal.returns
returns c = bodies
