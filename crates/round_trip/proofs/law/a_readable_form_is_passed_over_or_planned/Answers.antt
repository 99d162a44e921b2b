use Rattle.round_trip.proofs.Forms.{form_again}
use Rattle.round_trip.proofs.law.a_readable_form_is_passed_over_or_planned.Goals as goal

pub returns : goal.returns
returns c = λ e folder number is same of. form_again e is number of.0 of.1 folder same
