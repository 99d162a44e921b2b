-- What the standard lemmas lack on lists of distinct elements, and on membership.
use Rattle.std.proofs.Common.{◌≡◌, ◌≢◌, ℕ, suc, zero, ◌+◌, ◌<◌, ◌≤◌, Bool, true, not, eqb, List, [], ◌∷◌, length, get_or, arith, refl, sym, ◌∙◌, inl, inr, ◌⊎◌}
use Rattle.std.specs.List.{All, AllPairs, Contains, filter, list_any, range_with_len}
use Rattle.std.proofs.lemmas.List.Elements.{All-head, All-filter, filter_passes}
use Rattle.std.proofs.lemmas.List.Kept.{AllPairs-filter}
use Rattle.std.proofs.lemmas.List.Filters.{length-filter_both}
use Rattle.std.proofs.lemmas.List.{get_or_default}
use Rattle.std.proofs.lemmas.List.Folds.{Any-from_list_any, list_any_at}
use Rattle.std.proofs.lemmas.List.FromFn.{length-range_with_len, get_or-range_with_len}
use Rattle.std.specs.Bool.{Decides}
use Rattle.std.specs.Cmp.{unsigned_Decides, unsigned_tied}
use Rattle.std.specs.Ordering.{nat_cmp, eq_by_cmp}
use Rattle.std.specs.BTreeSet as sorted
use Rattle.std.specs.BTreeSet.{BTreeSet, btree_set_len}
use Rattle.std.proofs.lemmas.Cmp.{eq_by_cmp_equiv, nat_cmp_total}
use Rattle.std.proofs.lemmas.Map.Views.{btree_set_len-from_list}
use Rattle.std.proofs.lemmas.Map.Made.{IsDistinct-from_count, distinct_count-from_IsDistinct, AllPairs-from_IsDistinct, IsDistinct-from_AllPairs}
use Rattle.std.proofs.lemmas.Bool.{eqb-true, eqb-false, eq-eqb, not-true, cases_order}

module _ {X : Type 0} (R : X → X → Type 0) (q : X → Bool) (apart : (x y : X) → R x y → q x ≡ true → q y ≡ true → ⊥) where
  -- of elements that pass a test, no two of which may pass it together, there is one at most
  at_most_one : (xs : List X) → AllPairs R xs → All (λ x. q x ≡ true) xs → length xs ≤ 1
  at_most_one [] pairs all = omega arith
  at_most_one (x ∷ []) pairs all = omega arith
  at_most_one (x ∷ y ∷ ys) pairs all =
      absurd (apart x y (pairs 0 1 x (omega arith) (omega arith)) (all 0 x (omega arith)) (all 1 x (omega arith)))

  -- a filter that leaves out what passes such a test leaves out one element at most
  pub length_without : (xs : List X) → AllPairs R xs → length xs ≤ length (filter (λ x. not (q x)) xs) + 1
  length_without xs pairs =
      let both = length-filter_both q (λ x. not (q x)) (λ _. refl) xs in
      let few : length (filter q xs) ≤ 1 = at_most_one (filter q xs) (AllPairs-filter R q xs pairs) (filter_passes q xs) in
      omega arith

-- an element of a list with its first element in front
pub Contains-cons : (x : ℕ) (xs : List ℕ) (y : ℕ) → Contains xs y → Contains (x ∷ xs) y
Contains-cons x xs y (i, h, e) = (suc i, omega arith, e)

pub Contains-cases : (x : ℕ) (xs : List ℕ) (y : ℕ) → Contains (x ∷ xs) y → (x ≡ y) ⊎ Contains xs y
Contains-cases x xs y (zero, h, e) = inl e
Contains-cases x xs y (suc i, h, e) = inr (i, omega arith, e)

pub Contains-nil : (y : ℕ) → Contains {X = ℕ} [] y → ⊥
Contains-nil y (i, h, e) = omega arith

-- the test whether a list has a number
abbrev pub has : ℕ → List ℕ → Bool
has k xs = list_any (λ x. eqb x k) xs

pub Contains-has : (k : ℕ) (xs : List ℕ) → has k xs ≡ true → Contains xs k
Contains-has k xs e =
    let (i, x, within, at, same) = Any-from_list_any (λ y. eqb y k) xs e in
    let is : x ≡ k = eqb-true x k same in
    (i, within, get_or_default xs i k x within ∙ (at ∙ is))

pub has-Contains : (k : ℕ) (xs : List ℕ) → Contains xs k → has k xs ≡ true
has-Contains k xs (i, within, e) = list_any_at (λ y. eqb y k) xs i k within (eq-eqb (get_or xs i k) k e)

-- the numbers from a on are distinct
pub range_distinct : (a n : ℕ) → AllPairs (λ x y. x ≢ y) (range_with_len a n)
range_distinct a n i j d before within e =
    let lt : j < n = rw length-range_with_len at within in
    let at_i = get_or-range_with_len a n i d (omega arith) in
    let at_j = get_or-range_with_len a n j d lt in
    omega arith

pub range_below : (n : ℕ) → All (λ k. k < n) (range_with_len 0 n)
range_below n i d h =
    let lt : i < n = rw length-range_with_len at h in
    let at_i = get_or-range_with_len 0 n i d lt in
    omega arith

-- distinct numbers below n are n at most
pub length_distinct : (n : ℕ) (xs : List ℕ) → AllPairs (λ x y. x ≢ y) xs → All (λ x. x < n) xs → length xs ≤ n
length_distinct zero [] distinct below = omega arith
length_distinct zero (x ∷ xs) distinct below = absurd (omega (arith, All-head (λ y. y < 0) x xs below))
length_distinct (suc n) xs distinct below =
    let others = λ (x : ℕ). not (eqb x n) in
    let without = length_without (λ x y. x ≢ y) (λ x. eqb x n) (λ x y ne p q. ne (eqb-true x n p ∙ sym (eqb-true y n q))) xs distinct in
    let fewer =
    length_distinct n (filter others xs) (AllPairs-filter (λ x y. x ≢ y) others xs distinct)
    (λ i d h.
    let ne = eqb-false (get_or (filter others xs) i d) n (not-true (eqb (get_or (filter others xs) i d) n) (filter_passes others xs i d h)) in
    let lt = All-filter others (λ x. x < suc n) xs below i d h in
    omega arith) in
    omega arith

-- distinct numbers stand at one index each
pub one_place : (xs : List ℕ) (i j : ℕ) → AllPairs (λ x y. x ≢ y) xs → i < length xs → j < length xs → get_or xs i 0 ≡ get_or xs j 0 → i ≡ j
one_place xs i j apart in_i in_j same =
    elim (cases_order i j) [
      | inl e ↦ e
      | inr (inl lt) ↦ absurd (apart i j 0 lt in_j same)
      | inr (inr gt) ↦ absurd (apart j i 0 gt in_i (sym same))
    ]

-- a set that is made of a list is as long as the list exactly if no two numbers of it are equal
pub btree_set_len-Decides :
    (xs : List ℕ) (set : BTreeSet ℕ) → sorted.IsFromIterResult nat_cmp xs set
    → Decides (eqb (btree_set_len set) (length xs)) (AllPairs (λ x y. x ≢ y) xs)
btree_set_len-Decides xs set made =
    let laws = eq_by_cmp_equiv nat_cmp_total in
    let same : (a b : ℕ) → Decides (eq_by_cmp nat_cmp a b) (a ≡ b) = λ a b. rw (unsigned_tied a b) (unsigned_Decides a b) in
    let count = btree_set_len-from_list nat_cmp_total xs set made in (
      λ e. AllPairs-from_IsDistinct same xs (IsDistinct-from_count laws xs (sym count ∙ eqb-true (btree_set_len set) (length xs) e)),
      λ apart. eq-eqb (btree_set_len set) (length xs) (count ∙ distinct_count-from_IsDistinct laws xs (IsDistinct-from_AllPairs same xs apart)),
    )
