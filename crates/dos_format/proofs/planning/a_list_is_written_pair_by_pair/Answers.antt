use Rattle.dos_format.proofs.ListWrites.{pairs_start, pairs_step, pairs_skip, pairs_stay, pairs_same}
use Rattle.dos_format.proofs.planning.a_list_is_written_pair_by_pair.Goals as goal

pub returns-clause-start : goal.returns-clause-start
returns-clause-start c = pairs_start

pub returns-clause-pair : goal.returns-clause-pair
returns-clause-pair c = pairs_step

pub returns-clause-skip : goal.returns-clause-skip
returns-clause-skip c = λ count planned n upto later unit has further others.
    pairs_skip count planned n upto unit has later further others

pub returns-clause-link : goal.returns-clause-link
returns-clause-link c = λ count planned n upto place unit has.
    pairs_stay count planned n upto unit has place

pub returns-clause-parts : goal.returns-clause-parts
returns-clause-parts c = λ count planned other n upto unit same has.
    pairs_same count planned other same n unit upto has
