use Rattle.dos_format.proofs.OwnParts.{same_part, same_parts}
use Rattle.dos_format.proofs.walks.a_walk_tells_the_parts_of_its_file.Goals as goal

pub returns-clause-part : goal.returns-clause-part
returns-clause-part c = same_part

pub returns-clause-parts : goal.returns-clause-parts
returns-clause-parts c = same_parts
