-- What is left of a shortest plan is a shortest plan.
use Rattle.std.proofs.Common.{◌≡◌, ℕ, List, ◌++◌, length, arith, subst}
use Rattle.std.proofs.lemmas.List.{length-append}
use Rattle.vol_layout.specs.declared.moves.Move.{Move}
use Rattle.vol_layout.specs.Layouts.{IsLayout, IsTarget}
use Rattle.vol_layout.specs.Plans.{IsPlan, after}
use Rattle.vol_layout.specs.Rings.{IsDeficit}
use Rattle.vol_layout.proofs.LowerBound.{bound_of_deficit}
use Rattle.vol_layout.proofs.Deficits.{deficit_falls_slowly}
use Rattle.vol_layout.proofs.Existence.{some_deficit}
use Rattle.vol_layout.proofs.PlanLemmas.{IsLayout-after, plan_parts, after-append}

pub rest_is_shortest :
    (c : List ℕ) (places : ℕ) (ms ns : List Move)
    → IsLayout c places → IsPlan c places (ms ++ ns) → IsTarget (after c (ms ++ ns)) → IsDeficit c (length (ms ++ ns)) → IsDeficit (after c ms) (length ns)
rest_is_shortest c places ms ns layout legal end deficit =
    let parts = plan_parts c places ms ns legal in
    let (d, is) = some_deficit (after c ms) (IsLayout-after c places ms layout parts.0).distinct in
    let low = deficit_falls_slowly c places (length (ms ++ ns)) d ms deficit parts.0 is in
    let high = bound_of_deficit (after c ms) places d ns is parts.1 (subst IsTarget (after-append c ms ns) end) in
    let same : d ≡ length ns = omega (arith, length-append ms ns) in
    subst (IsDeficit (after c ms)) same is
