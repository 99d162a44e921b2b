-- What a filter leaves of a list with one element more, or with one element changed.
use Rattle.std.specs.Prelude.{◌≡◌, ◌<◌, ◌≤◌, ℕ, zero, suc, Bool, true, false, List, [], ◌∷◌, length, map, take, filter, slice_set}
use Rattle.std.proofs.Common.{refl, sym, ◌∙◌, ap, subst, arith, cond, get_or}
use Rattle.vol_laws.specs.Inserted.{insert_at}

pub filter_insert : {X : Type 0} (p : X → Bool) (i : ℕ) (x : X) (xs : List X) → p x ≡ true → i ≤ length xs
    → filter p (insert_at i x xs) ≡ insert_at (length (filter p (take i xs))) x (filter p xs)
filter_insert p zero x xs passes within = ap (λ b. cond b (x ∷ filter p xs) (filter p xs)) passes
filter_insert p (suc i) x [] passes within = absurd (omega (arith, within))
filter_insert p (suc i) x (y ∷ xs) passes within = by_test (filter_insert p i x xs passes (omega (arith, within))) (p y)
  where
    by_test : filter p (insert_at i x xs) ≡ insert_at (length (filter p (take i xs))) x (filter p xs) → (b : Bool)
        → cond b (y ∷ filter p (insert_at i x xs)) (filter p (insert_at i x xs))
        ≡ insert_at (length (cond b (y ∷ filter p (take i xs)) (filter p (take i xs)))) x (cond b (y ∷ filter p xs) (filter p xs))
    by_test rest true = ap (λ l. y ∷ l) rest
    by_test rest false = rest

pub filter_set : {X : Type 0} (p : X → Bool) (k : ℕ) (d y : X) (xs : List X) → k < length xs → p (get_or xs k d) ≡ true → p y ≡ true
    → filter p (slice_set xs k y) ≡ slice_set (filter p xs) (length (filter p (take k xs))) y
filter_set p k d y [] inside passed passes = absurd (omega (arith, inside))
filter_set p zero d y (x ∷ xs) inside passed passes =
    ap (λ b. cond b (y ∷ filter p xs) (filter p xs)) passes
    ∙ ap (λ b. slice_set (cond b (x ∷ filter p xs) (filter p xs)) 0 y) (sym passed)
filter_set p (suc k) d y (x ∷ xs) inside passed passes = by_test (filter_set p k d y xs (omega (arith, inside)) passed passes) (p x)
  where
    by_test : filter p (slice_set xs k y) ≡ slice_set (filter p xs) (length (filter p (take k xs))) y → (b : Bool)
        → cond b (x ∷ filter p (slice_set xs k y)) (filter p (slice_set xs k y))
        ≡ slice_set (cond b (x ∷ filter p xs) (filter p xs)) (length (cond b (x ∷ filter p (take k xs)) (filter p (take k xs)))) y
    by_test rest true = ap (λ l. x ∷ l) rest
    by_test rest false = rest

pub filter_map_same : {X : Type 0} (p : X → Bool) (f : X → X) (xs : List X) → ((x : X) → p (f x) ≡ p x) → filter p (map f xs) ≡ map f (filter p xs)
filter_map_same p f [] same = refl
filter_map_same p f (x ∷ xs) same = ap (λ b. cond b (f x ∷ filter p (map f xs)) (filter p (map f xs))) (same x) ∙ by_test (filter_map_same p f xs same) (p x)
  where
    by_test : filter p (map f xs) ≡ map f (filter p xs) → (b : Bool) → cond b (f x ∷ filter p (map f xs)) (filter p (map f xs)) ≡ map f (cond b (x ∷ filter p xs) (filter p xs))
    by_test rest true = ap (λ l. f x ∷ l) rest
    by_test rest false = rest

pub length-filter_take : {X : Type 0} (p : X → Bool) (k : ℕ) (xs : List X) → length (filter p (take k xs)) ≤ length (filter p xs)
length-filter_take p zero xs = omega arith
length-filter_take p (suc k) [] = omega arith
length-filter_take p (suc k) (x ∷ xs) = by_test (length-filter_take p k xs) (p x)
  where
    by_test : length (filter p (take k xs)) ≤ length (filter p xs) → (b : Bool)
        → length (cond b (x ∷ filter p (take k xs)) (filter p (take k xs))) ≤ length (cond b (x ∷ filter p xs) (filter p xs))
    by_test rest true = omega (arith, rest)
    by_test rest false = rest

-- where an element that passes stands among those that pass
pub place_in_filter : {X : Type 0} (p : X → Bool) (k : ℕ) (d : X) (xs : List X) → k < length xs → p (get_or xs k d) ≡ true
    → (length (filter p (take k xs)) < length (filter p xs)) × (get_or (filter p xs) (length (filter p (take k xs))) d ≡ get_or xs k d)
place_in_filter p k d [] inside passed = absurd (omega (arith, inside))
place_in_filter p zero d (x ∷ xs) inside passed =
    subst (λ b. (0 < length (cond b (x ∷ filter p xs) (filter p xs))) × (get_or (cond b (x ∷ filter p xs) (filter p xs)) 0 d ≡ x)) (sym passed) (omega arith, refl)
place_in_filter p (suc k) d (x ∷ xs) inside passed = by_test (place_in_filter p k d xs (omega (arith, inside)) passed) (p x)
  where
    by_test : (length (filter p (take k xs)) < length (filter p xs)) × (get_or (filter p xs) (length (filter p (take k xs))) d ≡ get_or xs k d) → (b : Bool)
        → (length (cond b (x ∷ filter p (take k xs)) (filter p (take k xs))) < length (cond b (x ∷ filter p xs) (filter p xs)))
        × (get_or (cond b (x ∷ filter p xs) (filter p xs)) (length (cond b (x ∷ filter p (take k xs)) (filter p (take k xs)))) d ≡ get_or xs k d)
    by_test rest true = (omega (arith, rest.0), rest.1)
    by_test rest false = rest
