use Rattle.std.proofs.Common.{ap, arith, length, List, ℕ}
use Rattle.vol_mover.proofs.Deficits.{few_claims}
use Rattle.shop_reads.proofs.plan.certificate_reply.Goals as goal

pub print-requires-clause-bound : goal.print-requires-clause-bound
print-requires-clause-bound g c =
    let opening = c.args.opening.now in
    omega (arith, ap (λ (xs : List ℕ). length xs) c.requires.misplaced, few_claims opening.layout.at opening.plan.rings.items c.requires.rings, c.at-parts.ensures.small)
