use Rattle.round_trip.proofs.Entries.{in_order}
use Rattle.round_trip.proofs.law.what_was_made_are_entries.Goals as goal

pub returns : goal.returns
returns c = in_order
