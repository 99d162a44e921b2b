use Rattle.std.proofs.Common.{refl, false, [], ◌∷◌}
use Rattle.dos_format.specs.Dos.{dos_available, first_available}
use Rattle.library_tests.proofs.of_moves.MadePlans.{nothing_to_do}
use Rattle.library_tests.proofs.of_moves.Trials.{tried_spare}
use Rattle.library_tests.proofs.moves.agendas.no_moves.Goals as goal

pub agenda_of-requires-clause-plan : goal.agenda_of-requires-clause-plan
agenda_of-requires-clause-plan g c = nothing_to_do

pub agenda_of-requires-2-clause-plan : goal.agenda_of-requires-2-clause-plan
agenda_of-requires-2-clause-plan g c = nothing_to_do

pub agenda_of-requires-2-clause-spare : goal.agenda_of-requires-2-clause-spare
unfolding first_available
agenda_of-requires-2-clause-spare g c = tried_spare (dos_available false []) (0 ∷ 1 ∷ []) (61 ∷ []) refl
