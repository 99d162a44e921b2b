use Rattle.std.proofs.Common.{map}
use Rattle.image_survey.specs.Grouping.{AreGrouped}
use Rattle.image_survey.specs.Told.{candidate_of, keys_by}
use Rattle.image_survey.proofs.same.same_lines.Given as goal

abbrev pub invariant-loop-number : goal.invariant-loop-number
invariant-loop-number l = AreGrouped (keys_by l.likeness (map candidate_of l.kept)) l.number l.groups.count l.groups.lines.items
