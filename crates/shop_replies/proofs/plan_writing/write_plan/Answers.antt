use Rattle.std.proofs.Common.{flat_map, subst}
use Rattle.std.specs.Io.KnownBytes.{Appends}
use Rattle.file_listings.specs.ProSteps.{ProPlan, count_line, plan_in, plan_line}
use Rattle.shop_replies.specs.Reply.{AppendsFront}
use Rattle.shop_replies.proofs.Appended.{appends_both, front_before, front_behind}
use Rattle.shop_replies.proofs.plan_writing.write_plan.Goals as goal

pub returns-then-write_steps-clause-whole : goal.returns-then-write_steps-clause-whole
returns-then-write_steps-clause-whole g c = λ all.
    let plan = plan_in c.args.lines.now in
    let old = g.W.Write.contents c.args.writer.now in
    let mid = g.W.Write.contents c.write_steps.new.writer in
    let new = g.W.Write.contents c.write_count.new.writer in
    appends_both old mid new (flat_map (plan_line plan) plan.steps) (count_line plan) (c.write_steps.ensures.whole c.if-write_steps.true)
    (subst (λ (p : ProPlan). Appends mid new (count_line p)) c.write_steps.ensures.plan (c.write_count.ensures.whole all))

pub returns-then-write_steps-clause-front : goal.returns-then-write_steps-clause-front
returns-then-write_steps-clause-front g c =
    let plan = plan_in c.args.lines.now in
    let old = g.W.Write.contents c.args.writer.now in
    let mid = g.W.Write.contents c.write_steps.new.writer in
    let new = g.W.Write.contents c.write_count.new.writer in
    front_behind old mid new (flat_map (plan_line plan) plan.steps) (count_line plan) (c.write_steps.ensures.whole c.if-write_steps.true)
    (subst (λ (p : ProPlan). AppendsFront mid new (count_line p)) c.write_steps.ensures.plan c.write_count.ensures.front)

pub returns-else-write_steps-clause-front : goal.returns-else-write_steps-clause-front
returns-else-write_steps-clause-front g c =
    let plan = plan_in c.args.lines.now in
    front_before (g.W.Write.contents c.args.writer.now) (g.W.Write.contents c.write_steps.new.writer) (flat_map (plan_line plan) plan.steps) (count_line plan) c.write_steps.ensures.front
