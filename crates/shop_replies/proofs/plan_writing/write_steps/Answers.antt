use Rattle.std.proofs.Common.{◌<◌, ◌∙◌, arith, flat_map, length, take_all, subst}
use Rattle.std.specs.Io.KnownBytes.{Appends}
use Rattle.file_listings.specs.ProSteps.{ProPlan, plan_in, plan_line, step_at}
use Rattle.file_listings.specs.Steps.{no_step}
use Rattle.shop_replies.specs.Reply.{AppendsFront}
use Rattle.shop_replies.proofs.Appended.{all_front, texts_grown, texts_stopped}
use Rattle.shop_replies.proofs.plan_writing.write_steps.Goals as goal

pub returns-then-not-write_step-clause-front : goal.returns-then-not-write_step-clause-front
returns-then-not-write_step-clause-front g c =
    let plan = plan_in c.args.lines.now in
    let within : c.loop-number.number < length plan.steps = omega (arith, c.loop-number-test.true, c.steps-number-end.ensures) in
    let mid = g.W.Write.contents c.loop-number.writer in
    let new = g.W.Write.contents c.write_step.new.writer in
    texts_stopped (plan_line plan) plan.steps no_step c.loop-number.number (g.W.Write.contents c.args.writer.now) mid new within c.loop-number.invariant.grown
    (subst (λ (p : ProPlan). AppendsFront mid new (plan_line p (step_at p c.loop-number.number))) c.loop-number.invariant.plan c.write_step.ensures.front)

pub loop-number-preserved : goal.loop-number-preserved
loop-number-preserved g c =
    let plan = plan_in c.args.lines.now in
    let within : c.loop-number.number < length plan.steps = omega (arith, c.loop-number-test.true, c.steps-number-end.ensures) in
    let mid = g.W.Write.contents c.loop-number.writer in
    let new = g.W.Write.contents c.write_step.new.writer in
    record {
      plan = c.write_step.ensures.plan ∙ c.loop-number.invariant.plan;
      grown = texts_grown (plan_line plan) plan.steps no_step c.loop-number.number (g.W.Write.contents c.args.writer.now) mid new within c.loop-number.invariant.grown
          (subst (λ (p : ProPlan). Appends mid new (plan_line p (step_at p c.loop-number.number))) c.loop-number.invariant.plan (c.write_step.ensures.whole c.if-not-write_step.false));
    }

pub returns-clause-front : goal.returns-clause-front
returns-clause-front g c =
    let plan = plan_in c.args.lines.now in
    all_front (g.W.Write.contents c.args.writer.now) (g.W.Write.contents c.loop-number.writer) (flat_map (plan_line plan) plan.steps)
    (subst (λ steps. Appends (g.W.Write.contents c.args.writer.now) (g.W.Write.contents c.loop-number.writer) (flat_map (plan_line plan) steps))
    (take_all c.loop-number.number plan.steps (omega (arith, c.loop-number-test.false, c.steps-number-end.ensures))) c.loop-number.invariant.grown)
