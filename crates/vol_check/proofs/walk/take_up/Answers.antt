use Rattle.std.proofs.Common.{refl, sym, set, subst, true}
use Rattle.a2_device.specs.declared.fault.Fault.TheVariants.{MarkedFree}
use Rattle.vol_check.specs.declared.walk.Walk.{Walk}
use Rattle.vol_check.specs.Marks.{AreOwnMarks, HasOwnMarks}
use Rattle.vol_check.specs.Walk.{lists}
use Rattle.vol_check.proofs.Marks.{fault_told, part_met}
use Rattle.vol_check.proofs.walk.take_up.Goals as goal
use Rattle.vol_check.proofs.walk.take_up.Goals.{then-is_free+in_ok-push, else-is_free}

pub returns-in_err-push-clause-marks : goal.returns-in_err-push-clause-marks
returns-in_err-push-clause-marks g c = λ places marks.
    let old = c.args.walk.now in
    subst (λ faults. AreOwnMarks places old.parts.items faults old.visited.items old.known.items) (sym c.in_err-push.ensures.items) marks

pub returns-in_err-push-2-clause-marks : goal.returns-in_err-push-2-clause-marks
returns-in_err-push-2-clause-marks g c = λ places marks.
    let old = c.args.walk.now in
    let now = c.if-is_free.walk in
    let told : HasOwnMarks places (lists now) =
    elim c.if-is_free.branch [
      | then-is_free+in_ok-push w ↦
          subst (λ (walk : Walk _). HasOwnMarks places (lists walk)) (sym w.walk-is)
          (fault_told places old.parts.items old.faults.items old.visited.items old.known.items marks (MarkedFree c.args.part.place) w.push.new.self.items w.in_ok-push.ensures.items)
      | else-is_free w ↦ subst (λ (walk : Walk _). HasOwnMarks places (lists walk)) (sym w.walk-is) marks
    ] in
    subst (λ parts. AreOwnMarks places parts now.faults.items now.visited.items now.known.items) (sym c.in_err-push-2.ensures.items) told

pub returns-clause-marks : goal.returns-clause-marks
returns-clause-marks g c = λ places marks.
    let old = c.args.walk.now in
    let now = c.if-is_free.walk in
    let told : HasOwnMarks places (lists now) =
    elim c.if-is_free.branch [
      | then-is_free+in_ok-push w ↦
          subst (λ (walk : Walk _). HasOwnMarks places (lists walk)) (sym w.walk-is)
          (fault_told places old.parts.items old.faults.items old.visited.items old.known.items marks (MarkedFree c.args.part.place) w.push.new.self.items w.in_ok-push.ensures.items)
      | else-is_free w ↦ subst (λ (walk : Walk _). HasOwnMarks places (lists walk)) (sym w.walk-is) marks
    ] in
    part_met places now.parts.items now.faults.items now.visited.items now.known.items told c.args.part c.push-2.new.self.items
    (set now.visited.items c.args.part.place true) c.in_ok-push-2.ensures.items refl
