use Rattle.dos_format.proofs.Building.{plan_built, entry_built}
use Rattle.dos_format.proofs.planning.a_planned_file_is_built.Goals as goal

pub returns-clause-built : goal.returns-clause-built
returns-clause-built c = plan_built

pub returns-clause-entry : goal.returns-clause-entry
returns-clause-entry c = λ data_disk reserved places file count planned place slot new plan first.
    entry_built data_disk reserved places file count planned place slot new plan first
