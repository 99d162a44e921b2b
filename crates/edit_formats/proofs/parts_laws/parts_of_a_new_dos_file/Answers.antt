use Rattle.edit_formats.specs.lemmas.DosOrder.{dos_parts_are, has_stored}
use Rattle.edit_formats.proofs.parts_laws.parts_of_a_new_dos_file.Goals as goal

pub returns-clause-parts : goal.returns-clause-parts
returns-clause-parts c = dos_parts_are

pub returns-clause-units : goal.returns-clause-units
returns-clause-units c = has_stored
