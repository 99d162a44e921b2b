use Rattle.edit_formats.specs.lemmas.ProOrder.{pro_parts_are, pro_units}
use Rattle.edit_formats.proofs.parts_laws.parts_of_a_new_pro_file.Goals as goal

pub returns-clause-parts : goal.returns-clause-parts
returns-clause-parts c = pro_parts_are

pub returns-clause-units : goal.returns-clause-units
returns-clause-units c = pro_units
