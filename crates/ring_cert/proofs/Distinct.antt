-- Lists of distinct numbers that are joined.
use Rattle.std.proofs.Common.{◌≢◌, ℕ, suc, zero, ◌<◌, List, [], ◌∷◌, ◌++◌, length, get_or, arith, refl, sym, ◌∙◌, inl, inr, subst}
use Rattle.std.specs.List.{All, Contains, concat}
use Rattle.std.proofs.lemmas.List.{get_or_default}
use Rattle.std.proofs.lemmas.List.Elements.{All-head, All-tail, All-cons, Contains-append_cases, Contains-append_left, Contains-append_right}
use Rattle.std.proofs.lemmas.List.Kept.{AllPairs-cons}
use Rattle.vol_layout.specs.Layouts.{AreDistinct}
use Rattle.vol_layout.specs.Rings.{AreApart}
use Rattle.vol_layout.proofs.Lists.{Contains-cons, Contains-cases, Contains-nil}

pub distinct_head : (x : ℕ) (xs : List ℕ) → AreDistinct (x ∷ xs) → Contains xs x → ⊥
distinct_head x xs distinct (i, h, e) = distinct 0 (suc i) x (omega arith) (omega arith) (sym e)

pub distinct_tail : (x : ℕ) (xs : List ℕ) → AreDistinct (x ∷ xs) → AreDistinct xs
distinct_tail x xs distinct = λ i j d before h. distinct (suc i) (suc j) d (omega arith) (omega arith)

pub distinct_cons : (x : ℕ) (xs : List ℕ) → (Contains xs x → ⊥) → AreDistinct xs → AreDistinct (x ∷ xs)
distinct_cons x xs out distinct =
    AllPairs-cons (λ a b. a ≢ b) x xs (λ i d h e. out (i, h, get_or_default xs i x d h ∙ sym e)) distinct

pub distinct_append :
    (xs ys : List ℕ) → AreDistinct xs → AreDistinct ys → ((k : ℕ) → Contains xs k → Contains ys k → ⊥) → AreDistinct (xs ++ ys)
distinct_append [] ys left right apart = right
distinct_append (x ∷ xs) ys left right apart =
    distinct_cons x (xs ++ ys)
    (λ inside.
    elim (Contains-append_cases xs ys x inside) [
      | inl within ↦ distinct_head x xs left within
      | inr beyond ↦ apart x (0, omega arith, refl) beyond
    ])
    (distinct_append xs ys (distinct_tail x xs left) right (λ k within beyond. apart k (Contains-cons x xs k within) beyond))

pub distinct_left : (xs ys : List ℕ) → AreDistinct (xs ++ ys) → AreDistinct xs
distinct_left [] ys both = λ i j d before h. absurd (omega arith)
distinct_left (x ∷ xs) ys both =
    distinct_cons x xs (λ inside. distinct_head x (xs ++ ys) both (Contains-append_left xs ys x inside))
    (distinct_left xs ys (distinct_tail x (xs ++ ys) both))

pub distinct_right : (xs ys : List ℕ) → AreDistinct (xs ++ ys) → AreDistinct ys
distinct_right [] ys both = both
distinct_right (x ∷ xs) ys both = distinct_right xs ys (distinct_tail x (xs ++ ys) both)

pub distinct_apart : (xs ys : List ℕ) → AreDistinct (xs ++ ys) → (k : ℕ) → Contains xs k → Contains ys k → ⊥
distinct_apart [] ys both k within beyond = Contains-nil k within
distinct_apart (x ∷ xs) ys both k within beyond =
    elim (Contains-cases x xs k within) [
      | inl e ↦ distinct_head x (xs ++ ys) both (Contains-append_right xs ys x (subst (Contains ys) (sym e) beyond))
      | inr rest ↦ distinct_apart xs ys (distinct_tail x (xs ++ ys) both) k rest beyond
    ]

-- what one of the lists has, all of them have together
pub concat_contains : (lists : List (List ℕ)) (i : ℕ) (d : List ℕ) (k : ℕ) → i < length lists → Contains (get_or lists i d) k → Contains (concat lists) k
concat_contains [] i d k h inside = absurd (omega arith)
concat_contains (xs ∷ lists) zero d k h inside = Contains-append_left xs (concat lists) k inside
concat_contains (xs ∷ lists) (suc i) d k h inside =
    Contains-append_right xs (concat lists) k (concat_contains lists i d k (omega arith) inside)

-- and the other way round
pub contained_in : (lists : List (List ℕ)) (k : ℕ) → Contains (concat lists) k → (i : ℕ) × (i < length lists) × Contains (get_or lists i []) k
contained_in [] k inside = absurd (Contains-nil k inside)
contained_in (xs ∷ lists) k inside =
    elim (Contains-append_cases xs (concat lists) k inside) [
      | inl here ↦ (0, omega arith, here)
      | inr rest ↦ let (i, h, there) = contained_in lists k rest in (suc i, omega arith, there)
    ]

-- lists that are distinct together are distinct each, and have no number in common
pub each_distinct : (lists : List (List ℕ)) → AreDistinct (concat lists) → All AreDistinct lists
each_distinct [] all = λ i d h. absurd (omega arith)
each_distinct (xs ∷ lists) all =
    All-cons AreDistinct xs lists (distinct_left xs (concat lists) all) (each_distinct lists (distinct_right xs (concat lists) all))

pub apart_from_distinct : (lists : List (List ℕ)) → AreDistinct (concat lists) → AreApart lists
apart_from_distinct [] all = λ i j d before h. absurd (omega arith)
apart_from_distinct (xs ∷ lists) all =
    AllPairs-cons (λ r s. (k : ℕ) → Contains r k → Contains s k → ⊥) xs lists
    (λ i d h k here there. distinct_apart xs (concat lists) all k here (concat_contains lists i d k h there))
    (apart_from_distinct lists (distinct_right xs (concat lists) all))

pub distinct_from_apart : (lists : List (List ℕ)) → All AreDistinct lists → AreApart lists → AreDistinct (concat lists)
distinct_from_apart [] each apart = λ i j d before h. absurd (omega arith)
distinct_from_apart (xs ∷ lists) each apart =
    distinct_append xs (concat lists) (All-head AreDistinct xs lists each)
    (distinct_from_apart lists (All-tail AreDistinct xs lists each) (λ i j d before h. apart (suc i) (suc j) d (omega arith) (omega arith)))
    (λ k here rest.
    let (i, h, there) = contained_in lists k rest in
    apart 0 (suc i) [] (omega arith) (omega arith) k here there)
