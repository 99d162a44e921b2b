use Rattle.vol_laws.proofs.AnyOrder.{written_is}
use Rattle.vol_laws.proofs.plans.a_plan_is_written_in_any_order.Goals as goal

pub returns : goal.returns
returns c = λ planned old new is. written_is old new planned is
