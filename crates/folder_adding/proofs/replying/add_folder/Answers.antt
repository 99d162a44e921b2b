use Rattle.std.proofs.Common.{inr}
use Rattle.folder_adding.specs.Plan.{plan_view}
use Rattle.folder_adding.proofs.replying.add_folder.Goals as goal

pub returns-in-Ok : goal.returns-in-Ok
returns-in-Ok g c = record {
  told = inr (inr (plan_view c.in-Ok.plan, c.in-Ok.ensures.planned, c.add_planned.ensures.told));
}
