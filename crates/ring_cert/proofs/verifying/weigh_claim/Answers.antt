use Rattle.std.proofs.Common.{List, ℕ, IfErr, refl, subst}
use Rattle.std.specs.List.{All}
use Rattle.vol_layout.specs.Layouts.{IsMisplaced}
use Rattle.ring_cert.specs.RingFaults.{IsFaultOfParts}
use Rattle.ring_cert.specs.Told.{told}
use Rattle.ring_cert.proofs.ClaimFaults.{claim_fault}
use Rattle.ring_cert.proofs.verifying.weigh_claim.Goals as goal

pub returns-clause-fault : goal.returns-clause-fault
returns-clause-fault g c =
    let cert = told c.args.cert.now in
    let weighed = c.weigh_parts.result in
    let misplaced = subst (λ (at : List ℕ). All (IsMisplaced at) cert.off) c.at.ensures.value
    (subst (All (IsMisplaced c.at.result.now)) c.as_slice.ensures.value c.in_default.ensures) in
    let of_rings = subst (λ (rings : List (List ℕ)). IfErr weighed (IsFaultOfParts c.at-2.result.now c.as_slice-2.result.now rings)) c.as_slice-3.ensures.value c.weigh_parts.ensures.fault in
    let of_off = subst (λ (off : List ℕ). IfErr weighed (IsFaultOfParts c.at-2.result.now off cert.rings)) c.as_slice-2.ensures.value of_rings in
    let of_at = subst (λ (at : List ℕ). IfErr weighed (IsFaultOfParts at cert.off cert.rings)) c.at-2.ensures.value of_off in
    claim_fault c.args.layout.now cert weighed (c.if-not-is_of_layout.ensures.0 refl) misplaced of_at
