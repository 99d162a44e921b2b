use Rattle.std.proofs.Common.{refl, false, [], ◌∷◌}
use Rattle.dos_format.specs.Dos.{dos_available, first_available}
use Rattle.library_tests.proofs.of_moves.Trials.{tried_plan}
use Rattle.library_tests.proofs.moves.agendas.a_hole_is_filled.Goals as goal

pub agenda_of-requires-clause-plan : goal.agenda_of-requires-clause-plan
unfolding first_available
agenda_of-requires-clause-plan g c = tried_plan (dos_available false []) (3 ∷ 0 ∷ 2 ∷ []) _ refl refl
