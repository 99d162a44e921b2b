use Rattle.std.proofs.Common.{refl, true, [], ◌∷◌}
use Rattle.dos_format.specs.Dos.{dos_available, first_available}
use Rattle.library_tests.proofs.of_moves.Trials.{tried_plan, tried_spare}
use Rattle.library_tests.proofs.moves.agendas.lost_places_are_marked_free.Goals as goal

pub agenda_of-requires-clause-plan : goal.agenda_of-requires-clause-plan
unfolding first_available
agenda_of-requires-clause-plan g c = tried_plan (dos_available true []) (33 ∷ 32 ∷ []) _ refl refl

pub agenda_of-requires-clause-spare : goal.agenda_of-requires-clause-spare
unfolding first_available
agenda_of-requires-clause-spare g c = tried_spare (dos_available true []) (33 ∷ 32 ∷ []) _ refl
