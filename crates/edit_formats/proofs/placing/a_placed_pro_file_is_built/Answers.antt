use Rattle.vol_laws.specs.Built.{place_of}
use Rattle.pro_tree.specs.Reach.{pro_root}
use Rattle.pro_format.proofs.BuiltPlans.{pro_built}
use Rattle.edit_formats.specs.Order.{IsOfIndex}
use Rattle.edit_formats.specs.lemmas.Parts.{plan_rising}
use Rattle.edit_formats.specs.lemmas.ProPlanned.{pro_file_planned, pro_root_first}
use Rattle.edit_formats.proofs.placing.a_placed_pro_file_is_built.Goals as goal

pub returns-clause-plan : goal.returns-clause-plan
returns-clause-plan c = pro_file_planned

pub returns-clause-built : goal.returns-clause-built
returns-clause-built c = λ reserved count file storage parts places planned are have has units.
    pro_built reserved count file planned (pro_file_planned count file storage parts places planned are have has units) (pro_root count file storage (place_of planned 0))
    (pro_root_first count file storage parts places planned are have has units)

pub returns-clause-rising : goal.returns-clause-rising
returns-clause-rising c = λ file storage parts places planned are has. plan_rising file parts places planned has IsOfIndex are.ordered
