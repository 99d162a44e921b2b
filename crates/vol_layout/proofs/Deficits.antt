-- The deficit falls by one at most with each move, so no plan between two layouts is shorter than the difference of their deficits.
use Rattle.std.proofs.Common.{◌≡◌, ◌≢◌, ℕ, suc, ◌+◌, ◌<◌, ◌≤◌, Bool, true, not, eqb, List, [], ◌∷◌, length, get_or, arith, refl, sym, ap, subst, ◌∙◌, inl, inr}
use Rattle.std.specs.List.{All, AllPairs, Any, Contains, filter}
use Rattle.std.proofs.lemmas.List.{get_or_default}
use Rattle.std.proofs.lemmas.List.Elements.{All-head, All-tail, All-cons, Contains-get_or}
use Rattle.std.proofs.lemmas.List.Kept.{AllPairs-cons}
use Rattle.std.proofs.lemmas.List.FromFn.{length-range_with_len, get_or-range_with_len}
use Rattle.std.proofs.lemmas.Bool.{cases_Bool, ne_eqb}
use Rattle.vol_layout.specs.declared.moves.Move.{Move}
use Rattle.vol_layout.specs.Layouts.{AreDistinct, IsMisplaced, misplaced, targets}
use Rattle.vol_layout.specs.Plans.{IsPlan, after}
use Rattle.vol_layout.specs.Rings.{IsRing, SameParts, AreApart, IsDeficit}
use Rattle.vol_layout.proofs.Lists.{Contains-cons, Contains-cases, length_distinct}
use Rattle.vol_layout.proofs.LowerBound.{bound_to, misplaced_distinct, misplaced_each, apart_from_once}

-- an element that passes a test stays in a filter
Contains-filter : (p : ℕ → Bool) (xs : List ℕ) (y : ℕ) → Contains xs y → p y ≡ true → Contains (filter p xs) y
Contains-filter p [] y inside passes = inside
Contains-filter p (x ∷ xs) y inside passes =
    elim (Contains-cases x xs y inside) [
      | inl e ↦ let here : p x ≡ true = ap p e ∙ passes in rw here (0, omega arith, e)
      | inr later ↦
          let rest = Contains-filter p xs y later passes in
          elim (cases_Bool (p x)) [
            | inl t ↦ rw t (Contains-cons x (filter p xs) y rest)
            | inr f ↦ rw f rest
          ]
    ]

-- each misplaced part is in the list of them
pub misplaced_all : (c : List ℕ) (k : ℕ) → IsMisplaced c k → Contains (misplaced c) k
misplaced_all c k (within, away) =
    let there : Contains (targets c) k =
    (k, rw length-range_with_len within, get_or-range_with_len 0 (length c) k k within ∙ omega arith) in
    Contains-filter (λ x. not (eqb (get_or c x 0) x)) (targets c) k there (ap not (ne_eqb (get_or c k 0) k away))

module _ {X Y : Type 0} (R : X → Y → Type 0) (ys : List Y) where
  -- the indices of the partners of xs in ys
  record Partners (xs : List X) : Type 0 where
    indices : List ℕ
    long : length indices ≡ length xs
    distinct : AreDistinct indices
    each : All (λ k. (y : Y) × (k < length ys) × (get_or ys k y ≡ y) × Any (λ x. R x y) xs) indices

  apart : X → X → Type 0
  apart x x' = (y : Y) → R x y → R x' y → ⊥

  partners : (xs : List X) → All (λ x. Any (R x) ys) xs → AllPairs (λ x x'. (y : Y) → R x y → R x' y → ⊥) xs → Partners xs
  partners [] all pairs =
      record { indices = []; long = refl; distinct = λ i j d before h. absurd (omega arith); each = λ i d h. absurd (omega arith) }
  partners (x ∷ xs) all pairs =
      let (k, y, lt, at, r) = All-head (λ x'. Any (R x') ys) x xs all in
      let rest = partners xs (All-tail (λ x'. Any (R x') ys) x xs all) (λ i j d before h. pairs (suc i) (suc j) d (omega arith) (omega arith)) in
      record {
        indices = k ∷ rest.indices;
        long = ap suc rest.long;
        distinct =
            AllPairs-cons (λ a b. a ≢ b) k rest.indices
            (λ j d h e.
            let (y', lt', at', (i, x', within, is, r')) = rest.each j d h in
            let same : y ≡ y' = sym at ∙ (get_or_default ys k y y' lt ∙ (ap (λ n. get_or ys n y') e ∙ at')) in
            let other : R (get_or xs i x') y' = subst (λ z. R z y') (sym is) r' in
            pairs 0 (suc i) x' (omega arith) (omega arith) y' (subst (R x) same r) other)
            rest.distinct;
        each =
            All-cons (λ n. (z : Y) × (n < length ys) × (get_or ys n z ≡ z) × Any (λ w. R w z) (x ∷ xs)) k rest.indices
            (y, lt, at, (0, x, omega arith, refl, r))
            (λ j d h.
            let (z, lt', at', (i, w, within, is, r')) = rest.each j d h in
            (z, lt', at', (suc i, w, omega arith, is, r')));
      }

  -- where each x has a partner in ys and no two have the same, there are no more of them
  pub length_partners : (xs : List X) → All (λ x. Any (R x) ys) xs → AllPairs (λ x x'. (y : Y) → R x y → R x' y → ⊥) xs → length xs ≤ length ys
  length_partners xs all pairs =
      let p = partners xs all pairs in
      let few = length_distinct (length ys) p.indices p.distinct (λ i d h. (p.each i d h).1) in
      omega (arith, p.long)

-- misplaced parts and rings without a common part are no more than the deficit
deficit_most :
    (c : List ℕ) (d : ℕ) (ks : List ℕ) (rings : List (List ℕ)) → IsDeficit c d → AreDistinct ks → All (IsMisplaced c) ks → AreApart rings → All (IsRing c) rings
    → length ks + length rings ≤ d
deficit_most c d ks rings (all, are, is) distinct off apart_rings each =
    let parts =
    length_partners (λ x y. x ≡ y) (misplaced c) ks
    (λ i e h.
    let (j, lt, at) = misplaced_all c (get_or ks i e) (off i e h) in
    (j, get_or ks i e, lt, at, refl))
    (λ i j e before h y one two. distinct i j e before h (one ∙ sym two)) in
    let turns =
    length_partners (λ r s. SameParts r s) all rings
    (λ i e h. are.all (get_or rings i e) (each i e h))
    (λ i j e before h s one two.
    let r = get_or rings i e in
    let ring = each i e (omega arith) in
    let first = get_or r 0 0 in
    let inside : Contains r first = Contains-get_or r 0 0 (omega (arith, ring.long)) in
    apart_rings i j e before h first inside ((two first).1 ((one first).0 inside))) in
    omega arith

-- no plan between two layouts is shorter than the difference of their deficits
pub deficit_falls_slowly :
    (c : List ℕ) (places d e : ℕ) (plan : List Move) → IsDeficit c d → IsPlan c places plan → IsDeficit (after c plan) e → d ≤ length plan + e
deficit_falls_slowly c places d e plan (rings, all, is) legal end =
    let least =
    bound_to plan c places (misplaced c) rings e (misplaced_distinct c) (misplaced_each c) (apart_from_once c rings all) all.each legal
    (λ ks rs distinct off apart_rings each. deficit_most (after c plan) e ks rs end distinct off apart_rings each) in
    omega arith

-- a layout has one deficit
pub deficit_is_one : (c : List ℕ) (d e : ℕ) → IsDeficit c d → IsDeficit c e → d ≡ e
deficit_is_one c d e one two =
    let low = deficit_falls_slowly c 0 d e [] one tt two in
    let high = deficit_falls_slowly c 0 e d [] two tt one in
    omega arith
