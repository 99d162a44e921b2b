use Rattle.vol_layout.proofs.ShortestPlans.{rest_is_shortest}
use Rattle.vol_layout.proofs.lower_bound.the_rest_of_a_shortest_plan.Goals as goal

pub returns : goal.returns
returns c = rest_is_shortest
