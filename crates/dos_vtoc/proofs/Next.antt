-- The first free place in the order of rising tracks and falling sectors.
use Rattle.std.proofs.Common.{◌≡◌, ◌≢◌, ℕ, ◌+◌, ◌-◌, ◌*◌, ◌/◌, ◌%◌, ◌<◌, ◌≤◌, Bool, true, false, List, refl, sym, ◌∙◌, ap, subst, arith, ⊎_elim}
use Rattle.std.proofs.lemmas.Bool.{cases_lt}
use Rattle.dos_vtoc.specs.Vtoc.{is_free, order_of, IsFreeFrom, IsNextFree}

-- no place is free whose number is from one on and below another
abbrev pub NoneBelow : List ℕ → ℕ → ℕ → Type 0
NoneBelow vtoc from number = (k : ℕ) → order_of from ≤ k → k < number → is_free vtoc (order_of k) ≡ false

order_of-order_of : (place : ℕ) → order_of (order_of place) ≡ place
order_of-order_of place = omega arith

-- a free place is not among those that were passed
not_below : (vtoc : List ℕ) (from number other : ℕ) → NoneBelow vtoc from number → IsFreeFrom vtoc from other → order_of other < number → ⊥
not_below vtoc from number other none is below =
    let free : is_free vtoc (order_of (order_of other)) ≡ true = subst (λ p. is_free vtoc p ≡ true) (sym (order_of-order_of other)) is.free in
    let passed = none (order_of other) is.behind below in
    cc

pub one_more : (vtoc : List ℕ) (from number place : ℕ) → NoneBelow vtoc from number → place ≡ order_of number → is_free vtoc place ≡ false
    → NoneBelow vtoc from (number + 1)
one_more vtoc from number place none named used k behind below =
    ⊎_elim (λ under. none k behind under)
    (λ over. let same : number ≡ k = omega (arith, over, below) in
    subst (λ n. is_free vtoc (order_of n) ≡ false) same (subst (λ p. is_free vtoc p ≡ false) named used))
    (cases_lt k number)

pub is_next : (vtoc : List ℕ) (from number place : ℕ) → NoneBelow vtoc from number → place ≡ order_of number → is_free vtoc place ≡ true
    → order_of from ≤ number → number < 560 → IsNextFree vtoc from place
is_next vtoc from number place none named free behind within =
    let back : order_of place ≡ number = ap order_of named ∙ order_of-order_of number in
    record {
      found = record { within = omega (arith, named, within); free = free; behind = omega (arith, back, behind) };
      first = λ other is. ⊎_elim (λ below. absurd (not_below vtoc from number other none is below)) (λ over. omega (arith, back, over)) (cases_lt (order_of other) number);
    }

pub none_left : (vtoc : List ℕ) (from number place : ℕ) → NoneBelow vtoc from number → 560 ≤ number → IsFreeFrom vtoc from place → ⊥
none_left vtoc from number place none end is = not_below vtoc from number place none is (omega (arith, is.within, end))
