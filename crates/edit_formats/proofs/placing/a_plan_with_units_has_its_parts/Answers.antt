use Rattle.edit_formats.proofs.Bodies.{plan_placed, plan_unit}
use Rattle.edit_formats.proofs.placing.a_plan_with_units_has_its_parts.Goals as goal

pub returns-clause-parts : goal.returns-clause-parts
returns-clause-parts c = plan_placed

pub returns-clause-units : goal.returns-clause-units
returns-clause-units c = plan_unit
