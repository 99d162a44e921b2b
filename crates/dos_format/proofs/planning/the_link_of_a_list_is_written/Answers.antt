use Rattle.dos_format.proofs.ListWrites.{link_step, link_none, link_stays, link_same}
use Rattle.dos_format.proofs.planning.the_link_of_a_list_is_written.Goals as goal

pub returns-clause-next : goal.returns-clause-next
returns-clause-next c = link_step

pub returns-clause-last : goal.returns-clause-last
returns-clause-last c = link_none

pub returns-clause-pair : goal.returns-clause-pair
returns-clause-pair c = λ count planned n number place unit has.
    link_stays count planned n unit number place has

pub returns-clause-parts : goal.returns-clause-parts
returns-clause-parts c = λ count planned other n unit same has.
    link_same count planned other same n unit has
