-- No plan is shorter than a list of misplaced parts and one of rings without a common part together.
use Rattle.std.proofs.Common.{◌≢◌, ℕ, ◌+◌, ◌<◌, ◌≤◌, Bool, not, eqb, List, [], ◌∷◌, length, get_or, set, arith, sym, ap, subst, ◌∙◌, inl, inr}
use Rattle.std.specs.List.{All, Contains, filter}
use Rattle.vol_layout.specs.declared.moves.Move.{Move}
use Rattle.vol_layout.specs.Layouts.{AreDistinct, IsTarget, IsMisplaced, misplaced, targets}
use Rattle.vol_layout.specs.Plans.{IsPlan, moved, after}
use Rattle.vol_layout.specs.Rings.{IsRing, AreApart, AreAllRings, IsDeficit}
use Rattle.vol_layout.proofs.Lists.{length_without, has, Contains-has, has-Contains, range_distinct, range_below}
use Rattle.vol_layout.proofs.RingLemmas.{ring_kept, ring_occupies, target_not_misplaced, target_no_ring, same_ring}
use Rattle.std.proofs.lemmas.List.Elements.{All-head, All-filter, filter_passes}
use Rattle.std.proofs.lemmas.List.Kept.{AllPairs-filter}
use Rattle.std.proofs.lemmas.List.{length-set, get_or-set_other, get_or-set_same}
use Rattle.std.proofs.lemmas.Bool.{cases_eq, eqb-true, eqb-false, not-true, both_ways}

-- a misplaced part stays so where another moves
misplaced_kept : (c : List ℕ) (k place x : ℕ) → x ≢ k → IsMisplaced c x → IsMisplaced (set c k place) x
misplaced_kept c k place x other (within, elsewhere) =
    (rw length-set within, λ e. elsewhere (sym (get_or-set_other c k x place 0 other) ∙ e))

-- and where it moves elsewhere than to the place of its number
misplaced_moved : (c : List ℕ) (k place x : ℕ) → place ≢ k → IsMisplaced c x → IsMisplaced (set c k place) x
misplaced_moved c k place x off (within, elsewhere) =
    elim (cases_eq x k) [
      | inl e ↦ (rw length-set within, λ e'. off (sym (get_or-set_same c k place 0 (subst (λ y. y < length c) e within)) ∙ (ap (λ y. get_or (set c k place) y 0) (sym e) ∙ (e' ∙ e))))
      | inr other ↦ misplaced_kept c k place x other (within, elsewhere)
    ]

-- e bounds every list of distinct misplaced parts with one of rings without a common part
abbrev pub IsMost : List ℕ → ℕ → Type 0
IsMost c e =
    (ks : List ℕ) (rings : List (List ℕ)) → AreDistinct ks → All (IsMisplaced c) ks → AreApart rings → All (IsRing c) rings
    → length ks + length rings ≤ e

-- each move lowers such a bound by one at most
pub bound_to :
    (plan : List Move) (c : List ℕ) (places : ℕ) (ks : List ℕ) (rings : List (List ℕ)) (e : ℕ)
    → AreDistinct ks → All (IsMisplaced c) ks → AreApart rings → All (IsRing c) rings
    → IsPlan c places plan → IsMost (after c plan) e → length ks + length rings ≤ length plan + e
bound_to [] c places ks rings e distinct off apart each legal end =
    let most = end ks rings distinct off apart each in omega arith
bound_to (m ∷ ms) c places ks rings e distinct off apart each legal end =
    elim (cases_eq m.to m.part) [
      | inl home ↦
          let without = length_without (λ x y. x ≢ y) (λ x. eqb x m.part) (λ x y ne p q. ne (eqb-true x m.part p ∙ sym (eqb-true y m.part q))) ks distinct in
          let less = filter (λ x. not (eqb x m.part)) ks in
          let rest =
          bound_to ms (moved c m) places less rings e
          (AllPairs-filter (λ x y. x ≢ y) (λ x. not (eqb x m.part)) ks distinct)
          (λ i d h. misplaced_kept c m.part m.to (get_or less i d)
          (eqb-false (get_or less i d) m.part (not-true (eqb (get_or less i d) m.part) (filter_passes (λ x. not (eqb x m.part)) ks i d h)))
          (All-filter (λ x. not (eqb x m.part)) (IsMisplaced c) ks off i d h))
          apart
          (λ i d h. ring_kept c m.part m.to (get_or rings i d) (each i d h)
          (λ inside. legal.0.free (subst (Contains c) (sym home) (ring_occupies c (get_or rings i d) m.part (each i d h) inside))))
          legal.1 end in
          omega arith
      | inr away ↦
          let without = length_without (λ r s. (k : ℕ) → Contains r k → Contains s k → ⊥) (has m.part) (λ r s ne p q. ne m.part (Contains-has m.part r p) (Contains-has m.part s q)) rings apart in
          let fewer = filter (λ r. not (has m.part r)) rings in
          let rest =
          bound_to ms (moved c m) places ks fewer e distinct
          (λ i d h. misplaced_moved c m.part m.to (get_or ks i d) away (off i d h))
          (AllPairs-filter (λ r s. (k : ℕ) → Contains r k → Contains s k → ⊥) (λ r. not (has m.part r)) rings apart)
          (λ i d h. ring_kept c m.part m.to (get_or fewer i d) (All-filter (λ r. not (has m.part r)) (IsRing c) rings each i d h)
          (λ inside. both_ways (has m.part (get_or fewer i d))
          (not-true (has m.part (get_or fewer i d)) (filter_passes (λ r. not (has m.part r)) rings i d h))
          (has-Contains m.part (get_or fewer i d) inside)))
          legal.1 end in
          omega arith
    ]

-- in the target no part is misplaced, and there is no ring
target_most : (c : List ℕ) → IsTarget c → IsMost c 0
target_most c end [] [] distinct off apart each = omega arith
target_most c end (k ∷ ks) rings distinct off apart each =
    absurd (target_not_misplaced c k end (All-head (IsMisplaced c) k ks off))
target_most c end [] (r ∷ rs) distinct off apart each = absurd (target_no_ring c r end (All-head (IsRing c) r rs each))

pub bound :
    (plan : List Move) (c : List ℕ) (places : ℕ) (ks : List ℕ) (rings : List (List ℕ))
    → AreDistinct ks → All (IsMisplaced c) ks → AreApart rings → All (IsRing c) rings
    → IsPlan c places plan → IsTarget (after c plan) → length ks + length rings ≤ length plan
bound plan c places ks rings distinct off apart each legal end =
    let most = bound_to plan c places ks rings 0 distinct off apart each legal (target_most (after c plan) end) in
    omega arith

-- each member of the list of misplaced parts is one
pub misplaced_each : (c : List ℕ) → All (IsMisplaced c) (misplaced c)
misplaced_each c =
    λ i d h. (
      All-filter off (λ k. k < length c) (targets c) (range_below (length c)) i d h,
      eqb-false (get_or c (get_or (misplaced c) i d) 0) (get_or (misplaced c) i d)
          (not-true (eqb (get_or c (get_or (misplaced c) i d) 0) (get_or (misplaced c) i d)) (filter_passes off (targets c) i d h)),
    )
  where
    off : ℕ → Bool
    off = λ k. not (eqb (get_or c k 0) k)

pub misplaced_distinct : (c : List ℕ) → AreDistinct (misplaced c)
misplaced_distinct c =
    AllPairs-filter (λ x y. x ≢ y) (λ k. not (eqb (get_or c k 0) k)) (targets c) (range_distinct 0 (length c))

-- different rings share no part
pub apart_from_once : (c : List ℕ) (rings : List (List ℕ)) → AreAllRings c rings → AreApart rings
apart_from_once c rings all =
    λ i j d before within k in_r in_s.
    all.once i j d before within
    (same_ring c (get_or rings i d) (get_or rings j d) k (all.each i d (omega arith)) (all.each j d within) in_r in_s)

pub bound_of_deficit :
    (c : List ℕ) (places d : ℕ) (plan : List Move) → IsDeficit c d → IsPlan c places plan → IsTarget (after c plan) → d ≤ length plan
bound_of_deficit c places d plan (rings, all, is) legal end =
    let least = bound plan c places (misplaced c) rings (misplaced_distinct c) (misplaced_each c) (apart_from_once c rings all) all.each legal end in
    omega arith
