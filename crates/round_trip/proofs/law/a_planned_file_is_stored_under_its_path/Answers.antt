use Rattle.round_trip.proofs.Stored.{stored}
use Rattle.round_trip.proofs.law.a_planned_file_is_stored_under_its_path.Goals as goal

pub returns : goal.returns
returns c = stored
