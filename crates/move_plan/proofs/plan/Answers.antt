use Rattle.std.proofs.Common.{◌≡◌, ℕ, List, [], Vec, vec_len, true, eqb, arith, sym, ◌∙◌}
use Rattle.std.proofs.lemmas.Bool.{eqb-true}
use Rattle.std.proofs.lemmas.List.{nil_from_length}
use Rattle.vol_layout.specs.Layouts.{misplaced}
use Rattle.vol_layout.proofs.LowerBound.{bound_of_deficit}
use Rattle.move_plan.specs.Turns.{IsDone}
use Rattle.move_plan.proofs.Done.{IsDone-fresh, done_target, done_rings, done_deficit}
use Rattle.move_plan.proofs.plan.Given.{Over}
use Rattle.move_plan.proofs.plan.Goals as goal
use Rattle.move_plan.proofs.plan.Goals.{Joined-not-is_empty-2, then-not-is_empty-2+in_ok-fill_holes+in_ok-turn_rings, else-not-is_empty-2}

nothing : {A : Type 0} (parts : Vec ℕ A) (at read : List ℕ) → parts.items ≡ misplaced read → read ≡ at → true ≡ eqb (vec_len parts) 0 → misplaced at ≡ []
nothing parts at read is same empty =
    let none : vec_len parts ≡ 0 = eqb-true (vec_len parts) 0 (sym empty) in
    rw same at (sym is ∙ nil_from_length parts.items (omega (arith, parts.ok.0)))

-- in both branches all parts are home
done : (g : Over) (c : Joined-not-is_empty-2 g) → IsDone c.args.layout.now c.if-not-is_empty-2.planner
done g c =
    elim c.if-not-is_empty-2.branch [
      | then-not-is_empty-2+in_ok-fill_holes+in_ok-turn_rings w ↦ rw w.planner-is w.in_ok-turn_rings.ensures
      | else-not-is_empty-2 w ↦
          let none : misplaced c.args.layout.now.at ≡ [] =
          nothing c.in_ok-misplaced.misplaced c.args.layout.now.at c.at.result.now c.in_ok-misplaced.ensures c.at.ensures.value w.if-not-is_empty-2.ensures in
          rw w.planner-is (IsDone-fresh c.args.layout.now c.in_ok-planner.planner c.in_ok-planner.ensures.fresh none)
    ]

pub returns-clause-target : goal.returns-clause-target
returns-clause-target g c = done_target c.args.layout.now c.if-not-is_empty-2.planner (done g (goal.at.returns-clause-target g c).Joined-not-is_empty-2)

pub returns-clause-deficit : goal.returns-clause-deficit
returns-clause-deficit g c = done_deficit c.args.layout.now c.if-not-is_empty-2.planner (done g (goal.at.returns-clause-deficit g c).Joined-not-is_empty-2)

pub returns-clause-shortest : goal.returns-clause-shortest
returns-clause-shortest g c = λ other legal end.
    bound_of_deficit c.args.layout.now.at c.args.layout.now.places _ other
    (done_deficit c.args.layout.now c.if-not-is_empty-2.planner (done g (goal.at.returns-clause-shortest g c).Joined-not-is_empty-2)) legal end

pub returns-clause-rings : goal.returns-clause-rings
returns-clause-rings g c = done_rings c.args.layout.now c.if-not-is_empty-2.planner (done g (goal.at.returns-clause-rings g c).Joined-not-is_empty-2)

pub returns-clause-starts : goal.returns-clause-starts
returns-clause-starts g c = (done g (goal.at.returns-clause-starts g c).Joined-not-is_empty-2).starts

pub returns-clause-rising : goal.returns-clause-rising
returns-clause-rising g c = (done g (goal.at.returns-clause-rising g c).Joined-not-is_empty-2).rising
