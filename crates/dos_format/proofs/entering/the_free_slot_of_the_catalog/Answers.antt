use Rattle.dos_format.proofs.FreeSlots.{first_is_free, none_is_free}
use Rattle.dos_format.proofs.entering.the_free_slot_of_the_catalog.Goals as goal

pub returns-clause-some : goal.returns-clause-some
returns-clause-some c = first_is_free

pub returns-clause-none : goal.returns-clause-none
returns-clause-none c = none_is_free
