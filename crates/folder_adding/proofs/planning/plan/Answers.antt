use Rattle.std.proofs.Common.{[], ap, subst, refl, map, arith}
use Rattle.folder_adding.specs.HostEntries.{entry_view}
use Rattle.folder_adding.specs.Items.{item_view}
use Rattle.folder_adding.specs.Plan.{plan_view}
use Rattle.folder_adding.specs.Verdicts.{IsVerdict}
use Rattle.folder_adding.specs.Weighing.{folder_at, step_view, verdict_view}
use Rattle.folder_adding.specs.declared.step.Weighed.{Weighed}
use Rattle.folder_adding.proofs.PlanSteps.{all_planned, none_planned, one_planned, refused_here, same_plan}
use Rattle.folder_adding.proofs.planning.plan.Goals as goal

pub loop-number-init : goal.loop-number-init
loop-number-init c =
    none_planned (folder_at (record { file_system = c.args.file_system; into = c.args.into }) (map entry_view c.args.entries.now)) c.args.entries.now
    (plan_view (record { directories = c.new.result; folders = c.new-2.result; items = c.new-3.result; files = c.new-4.result; passed = c.new-5.result }))
    (same_plan (map (λ path. path.items) c.new.result.items) [] c.new-2.result.items [] (map item_view c.new-3.result.items) [] c.new-4.result.items [] c.new-5.result.items []
    (ap (map (λ path. path.items)) c.new.ensures.items) c.new-2.ensures.items (ap (map item_view) c.new-3.ensures.items) c.new-4.ensures.items c.new-5.ensures.items)

pub returns-in-Refused-clause-refused : goal.returns-in-Refused-clause-refused
returns-in-Refused-clause-refused c =
    let views = map entry_view c.args.entries.now in
    let folder = folder_at (record { file_system = c.args.file_system; into = c.args.into }) views in
    refused_here folder c.args.entries.now c.loop-number.number (plan_view c.loop-number.plan) c.loop-number.invariant c.index-entries-number.result
    c.loop-number-test.true c.index-entries-number.is c.in-Refused.refusal refl
    (subst (λ (weighed : Weighed). IsVerdict folder (entry_view c.index-entries-number.result) (verdict_view weighed)) c.in-Refused.is
    (c.in_ok-step.ensures views c.in_ok-files.ensures))

pub loop-number-preserved : goal.loop-number-preserved
loop-number-preserved c =
    let views = map entry_view c.args.entries.now in
    let folder = folder_at (record { file_system = c.args.file_system; into = c.args.into }) views in
    one_planned folder c.args.entries.now c.loop-number.number (plan_view c.loop-number.plan) c.loop-number.invariant c.index-entries-number.result
    c.loop-number-test.true c.index-entries-number.is (step_view c.in-Step.step) (plan_view c.push_step.new.plan)
    (subst (λ (weighed : Weighed). IsVerdict folder (entry_view c.index-entries-number.result) (verdict_view weighed)) c.in-Step.is
    (c.in_ok-step.ensures views c.in_ok-files.ensures))
    c.in_ok-push_step-in-Step.ensures

pub returns-clause-planned : goal.returns-clause-planned
returns-clause-planned c =
    let views = map entry_view c.args.entries.now in
    all_planned (folder_at (record { file_system = c.args.file_system; into = c.args.into }) views) c.args.entries.now c.loop-number.number
    (plan_view c.loop-number.plan) c.loop-number.invariant refl (omega arith)
