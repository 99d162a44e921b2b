use Rattle.library_tests.proofs.of_moves.MadePlans.{exchanged}
use Rattle.library_tests.proofs.moves.agendas.two_parts_that_changed_places.Goals as goal

pub agenda_of-requires-clause-plan : goal.agenda_of-requires-clause-plan
agenda_of-requires-clause-plan g c = exchanged
