use Rattle.std.proofs.lemmas.Result.{err_from_is_err_and, on_ok_weaker}
use Rattle.ring_cert.specs.Told.{told}
use Rattle.ring_cert.proofs.Faults.{good_from_parts, yes_from, good_bound, fault_not_good}
use Rattle.ring_cert.proofs.verifying.verify.Goals as goal

pub returns-in_err-weigh_claim-clause-yes : goal.returns-in_err-weigh_claim-clause-yes
returns-in_err-weigh_claim-clause-yes g c =
    let p = err_from_is_err_and c.from_residual.result c.from_residual.ensures.1 in
    rw (p.1, p.2) (λ good. fault_not_good c.args.layout.now (told c.args.cert.now) _ c.in_err-weigh_claim.ensures.fault good)

pub returns-clause-good : goal.returns-clause-good
returns-clause-good g c =
    good_from_parts c.args.layout.now (told c.args.cert.now) c.weigh_plan.result c.in_ok-weigh_claim.ensures.right
    c.weigh_plan.ensures.plan c.weigh_plan.ensures.target c.weigh_plan.ensures.sum

pub returns-clause-yes : goal.returns-clause-yes
returns-clause-yes g c = yes_from c.args.layout.now (told c.args.cert.now) c.weigh_plan.result c.weigh_plan.ensures.fault

pub returns-clause-shortest : goal.returns-clause-shortest
returns-clause-shortest g c =
    on_ok_weaker c.weigh_plan.result (good_bound c.args.layout.now (told c.args.cert.now))
    (good_from_parts c.args.layout.now (told c.args.cert.now) c.weigh_plan.result c.in_ok-weigh_claim.ensures.right
    c.weigh_plan.ensures.plan c.weigh_plan.ensures.target c.weigh_plan.ensures.sum)
