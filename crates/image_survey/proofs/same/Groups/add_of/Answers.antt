use Rattle.std.proofs.Common.{◌∙◌}
use Rattle.image_survey.proofs.Groups.{grouped_without}
use Rattle.image_survey.proofs.same.Groups.add_of.Goals as goal

pub returns-in-Some : goal.returns-in-Some
returns-in-Some c = λ all within is sorted grouped.
    c.add.ensures all c.in-Some.key within (is ∙ c.in-Some.is) (c.run_of.ensures all sorted) grouped

pub returns-in-None : goal.returns-in-None
returns-in-None c = λ all within is sorted grouped.
    grouped_without all c.args.number c.args.self.now.count c.args.self.now.lines.items (is ∙ c.in-None.is) grouped
