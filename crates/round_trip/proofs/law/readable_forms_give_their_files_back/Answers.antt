use Rattle.round_trip.proofs.Alike.{given_back}
use Rattle.round_trip.proofs.law.readable_forms_give_their_files_back.Goals as goal

pub returns : goal.returns
returns c = λ e folder plan date contents is same hold are may planned.
    given_back c.an_entry_makes_one_step.ensures e folder plan date contents is same hold are may planned
