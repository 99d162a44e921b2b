use Rattle.pro_format.proofs.BuiltPlans.{first_root, pro_built, seedling_planned}
use Rattle.pro_format.proofs.Pointing.{plan_pointed}
use Rattle.pro_format.proofs.planning.a_planned_file_is_built.Goals as goal

pub returns-clause-built : goal.returns-clause-built
returns-clause-built c = λ reserved places file planned root plan first. pro_built reserved places file planned plan root first

pub returns-clause-whole : goal.returns-clause-whole
returns-clause-whole c = plan_pointed

pub returns-clause-root : goal.returns-clause-root
returns-clause-root c = first_root

pub returns-clause-seedling : goal.returns-clause-seedling
returns-clause-seedling c = seedling_planned
