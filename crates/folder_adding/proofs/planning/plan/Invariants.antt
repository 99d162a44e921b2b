use Rattle.std.proofs.Common.{map}
use Rattle.folder_adding.specs.HostEntries.{entry_view}
use Rattle.folder_adding.specs.Plan.{plan_view}
use Rattle.folder_adding.specs.Weighing.{folder_at}
use Rattle.folder_adding.proofs.PlanSteps.{IsPlannedTo}
use Rattle.folder_adding.proofs.planning.plan.Given as goal

-- the plan of the entries so far
abbrev pub invariant-loop-number : goal.invariant-loop-number
invariant-loop-number l = IsPlannedTo (folder_at l.destination (map entry_view l.entries)) l.entries l.number (plan_view l.plan)
