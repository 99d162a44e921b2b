use Rattle.image_survey.proofs.Ordering.{in_order}
use Rattle.image_survey.proofs.ordered.files_in_order.Goals as goal

pub returns-in-Some-clause-ordered : goal.returns-in-Some-clause-ordered
returns-in-Some-clause-ordered g c =
    in_order _ c.in-Some.named.items c.sort.new.named.items (rw c.in-Some.is at c.in_ok-named.ensures.named) c.sort.ensures.same c.sort.ensures.sorted
