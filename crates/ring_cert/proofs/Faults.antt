-- What is wrong with a certificate is not so with a good one.
use Rattle.std.proofs.Common.{◌≡◌, ℕ, ◌<◌, List, [], length, take, drop, arith, refl, sym, ◌∙◌, inl, inr, subst, ◌≤◌, Result, Ok, Err, OnOk, IfErr, IsOkUnless}
use Rattle.std.specs.List.{All, concat}
use Rattle.std.proofs.lemmas.List.{get_or_default, get_or-take, length-take-le, take-append-drop, drop_more}
use Rattle.vol_layout.specs.declared.moves.Move.{Move}
use Rattle.vol_layout.specs.Layouts.{Placement, AreDistinct, IsMisplaced, IsTarget}
use Rattle.vol_layout.specs.Plans.{IsPlan, after}
use Rattle.vol_layout.specs.Rings.{IsRing}
use Rattle.vol_layout.proofs.PlanLemmas.{plan_parts}
use Rattle.vol_layout.proofs.LowerBound.{bound}
use Rattle.ring_cert.specs.Certificates.{Certificate}
use Rattle.ring_cert.specs.Good.{IsFirstNot, IsFirstRepeat, IsFirstIllegal, IsFirstFault, IsGood, IsRightSoFar, TellsEachOnce, TellsPlan, EndsAtTarget, AddsUp, RepeatsFirst}
use Rattle.ring_cert.specs.declared.certificate.CertFault.{CertFault}
use Rattle.ring_cert.specs.declared.certificate.CertFault.TheVariants.{OtherLayout, NotMisplaced, Repeated, NotARing, IllegalMove, NotAtTarget, Sum, Memory}
use Rattle.ring_cert.proofs.Distinct.{apart_from_distinct, distinct_from_apart}

first_not : {X : Type 0} (P : X → Type 0) (xs : List X) (index : ℕ) (d : X) → IsFirstNot P xs index → All P xs → ⊥
first_not P xs index d fault all = fault.here d (all index d fault.within)

first_repeat : (numbers : List ℕ) (number : ℕ) → IsFirstRepeat numbers number → AreDistinct numbers → ⊥
first_repeat numbers number fault distinct =
    let (i, h, e) = fault.again in
    let before : i < fault.index = omega (arith, length-take-le fault.index numbers (omega arith)) in
    distinct i fault.index number before fault.within
    (sym (get_or-take fault.index numbers i number before) ∙ (e ∙ (sym fault.is ∙ get_or_default numbers fault.index 0 number fault.within)))

first_illegal : (layout : Placement) (moves : List Move) (index : ℕ) → IsFirstIllegal layout moves index → IsPlan layout.at layout.places moves → ⊥
first_illegal layout moves index fault plan =
    let d : Move = record { part = 0; to = 0 } in
    let whole = subst (IsPlan layout.at layout.places) (sym (take-append-drop index moves)) plan in
    let rest = (plan_parts layout.at layout.places (take index moves) (drop index moves) whole).1 in
    let from_here = subst (IsPlan (after layout.at (take index moves)) layout.places) (drop_more moves index d fault.within) rest in
    fault.here d from_here.0

-- in a good certificate no part stands twice in the rings
pub good_once : (layout : Placement) (c : Certificate) → IsGood layout c → TellsEachOnce c
good_once layout c good =
    (good.distinct, distinct_from_apart c.rings (λ i d h. (good.rings i d h).distinct) good.apart)

repeats_first : (c : Certificate) (part : ℕ) → RepeatsFirst c part → TellsEachOnce c → ⊥
repeats_first c part found once =
    elim found [
      | inl off ↦ first_repeat c.off part off once.0
      | inr rings ↦ first_repeat (concat c.rings) part rings.1 once.1
    ]

-- a good certificate has no fault
pub fault_not_good : (layout : Placement) (c : Certificate) (fault : CertFault) → IsFirstFault layout c fault → IsGood layout c → fault ≡ Memory
fault_not_good layout c OtherLayout fault good = absurd (fault good.same)
fault_not_good layout c (NotMisplaced part) fault good = absurd (first_not (IsMisplaced layout.at) c.off fault.index 0 fault.first good.misplaced)
fault_not_good layout c (Repeated part) fault good = absurd (repeats_first c part fault.first (good_once layout c good))
fault_not_good layout c (NotARing ring) fault good = absurd (first_not (IsRing layout.at) c.rings ring [] fault.first good.rings)
fault_not_good layout c (IllegalMove move) fault good = absurd (first_illegal layout c.moves move fault.1 good.plan)
fault_not_good layout c NotAtTarget fault good = absurd (fault.2 good.target)
fault_not_good layout c Sum fault good = absurd (fault.3 good.sum)
fault_not_good layout c Memory fault good = refl

-- a certificate that is right in all is good
pub IsGood-from : (layout : Placement) (c : Certificate) → IsRightSoFar layout c → TellsPlan layout c → EndsAtTarget layout c → AddsUp c → IsGood layout c
IsGood-from layout c right plan target sum =
    record {
      same = right.same;
      misplaced = right.misplaced;
      distinct = right.once.0;
      rings = right.rings;
      apart = apart_from_distinct c.rings right.once.1;
      plan = plan;
      target = target;
      sum = sum;
    }

pub good_from_parts :
    (layout : Placement) (c : Certificate) (weighed : Result (Unit {0}) CertFault) → IsRightSoFar layout c
    → OnOk weighed (TellsPlan layout c) → OnOk weighed (EndsAtTarget layout c) → OnOk weighed (AddsUp c) → OnOk weighed (IsGood layout c)
good_from_parts layout c (Ok x) right plan target sum = IsGood-from layout c right plan target sum
good_from_parts layout c (Err e) right plan target sum = tt

-- a good certificate is not refused
pub yes_from :
    (layout : Placement) (c : Certificate) (weighed : Result (Unit {0}) CertFault) → IfErr weighed (IsFirstFault layout c)
    → IsGood layout c → IsOkUnless weighed Memory
yes_from layout c (Ok x) fault good = tt
yes_from layout c (Err e) fault good = fault_not_good layout c e fault good

-- no plan to the target is shorter than the bound of a good certificate
pub good_bound :
    (layout : Placement) (c : Certificate) → IsGood layout c → (plan : List Move) → IsPlan layout.at layout.places plan
    → IsTarget (after layout.at plan) → c.bound ≤ length plan
good_bound layout c good plan legal end =
    let least = bound plan layout.at layout.places c.off c.rings good.distinct good.misplaced good.apart good.rings legal end in
    let sum = good.sum.0 in
    omega arith
