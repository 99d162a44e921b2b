use Rattle.std.proofs.Common.{◌<◌, length, arith, ap}
use Rattle.move_plan.proofs.Done.{IsTurnedTo-home, IsTurnedTo-turn, IsDone-turned}
use Rattle.move_plan.proofs.planner.Planner.turn_rings.Goals as goal
use Rattle.move_plan.proofs.planner.Planner.turn_rings.Goals.{then-at-least+in_ok-ring+in_ok-turn, else-at-least}

pub loop-least-preserved : goal.loop-least-preserved
loop-least-preserved g c =
    let target : c.loop-least.least < length c.args.layout.now.at = omega (arith, ap length c.at.ensures.value) in
    elim c.if-at-least.branch [
      | then-at-least+in_ok-ring+in_ok-turn w ↦
          rw w.self-is
          (IsTurnedTo-turn c.args.layout.now c.loop-least.self w.turn.new.self c.loop-least.least w.in_ok-ring.ring target
          c.loop-least.invariant (rw w.at-then-at-least.ensures.value at w.in_ok-ring.ensures.ring) w.in_ok-ring.ensures.first w.in_ok-turn.ensures)
      | else-at-least w ↦
          rw w.self-is
          (IsTurnedTo-home c.args.layout.now c.loop-least.self c.loop-least.least c.loop-least.invariant
          (rw c.at-in-loop-least.ensures.value at w.if-at-least.false))
    ]

pub returns : goal.returns
returns g c =
    IsDone-turned c.args.layout.now c.loop-least.self c.loop-least.least (omega (arith, ap length c.at.ensures.value)) c.loop-least.invariant
