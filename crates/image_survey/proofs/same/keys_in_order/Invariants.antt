use Rattle.std.proofs.Common.{map}
use Rattle.image_survey.specs.Grouping.{AreNumbered}
use Rattle.image_survey.specs.Told.{candidate_of, keys_by}
use Rattle.image_survey.proofs.same.keys_in_order.Given as goal

abbrev pub invariant-loop-number : goal.invariant-loop-number
invariant-loop-number l = AreNumbered (keys_by l.likeness (map candidate_of l.kept)) l.number l.keys.items
