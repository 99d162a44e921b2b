use Rattle.library_tests.proofs.of_moves.MadePlans.{exchanged}
use Rattle.library_tests.proofs.moves.agendas.made_over.Goals as goal

pub agenda_of-requires-clause-plan : goal.agenda_of-requires-clause-plan
agenda_of-requires-clause-plan c = exchanged
