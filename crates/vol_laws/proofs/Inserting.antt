-- A list with one element more, and the numbers behind it.
use Rattle.std.specs.Prelude.{◌≡◌, ◌≢◌, ◌<◌, ◌≤◌, ℕ, ◌+◌, ◌-◌, suc, zero, nat_lt, if◌then◌else◌, Bool, true, false, List, [], ◌∷◌, length}
use Rattle.std.proofs.Common.{refl, sym, ◌∙◌, ap, arith, get_or, inl, inr}
use Rattle.std.proofs.lemmas.Bool.{cases_lt}
use Rattle.std.proofs.lemmas.Bool.Decides.{nat_tests}
use Rattle.vol_laws.specs.Inserted.{insert_at, shifted}

pub shifted_low : (at file : ℕ) → file < at → shifted at file ≡ file
shifted_low at file low = by_test (nat_lt file at) refl
  where
    by_test : (test : Bool) → nat_lt file at ≡ test → (if test then file else file + 1) ≡ file
    by_test true is = refl
    by_test false is = absurd (grind (arith, nat_tests))

pub shifted_high : (at file : ℕ) → at ≤ file → shifted at file ≡ file + 1
shifted_high at file high = by_test (nat_lt file at) refl
  where
    by_test : (test : Bool) → nat_lt file at ≡ test → (if test then file else file + 1) ≡ file + 1
    by_test true is = absurd (grind (arith, nat_tests))
    by_test false is = refl

pub shifted_apart : (at file : ℕ) → shifted at file ≢ at
shifted_apart at file same = elim (cases_lt file at) [
  | inl low ↦ absurd (omega (arith, low, shifted_low at file low, same))
  | inr high ↦ absurd (omega (arith, high, shifted_high at file (omega (arith, high)), same))
]

pub shifted_same : (at file other : ℕ) → shifted at file ≡ shifted at other → file ≡ other
shifted_same at file other same = elim (cases_lt file at) [
  | inl low ↦ elim (cases_lt other at) [
    | inl low' ↦ omega (arith, shifted_low at file low, shifted_low at other low', same)
    | inr high' ↦ absurd (omega (arith, low, high', shifted_low at file low, shifted_high at other (omega (arith, high')), same))
  ]
  | inr high ↦ elim (cases_lt other at) [
    | inl low' ↦ absurd (omega (arith, high, low', shifted_high at file (omega (arith, high)), shifted_low at other low', same))
    | inr high' ↦ omega (arith, shifted_high at file (omega (arith, high)), shifted_high at other (omega (arith, high')), same)
  ]
]

pub shifted_below : (at file n : ℕ) → file < n → shifted at file < n + 1
shifted_below at file n inside = elim (cases_lt file at) [
  | inl low ↦ omega (arith, shifted_low at file low, inside)
  | inr high ↦ omega (arith, shifted_high at file (omega (arith, high)), inside)
]

-- the number that a file had
pub unshifted : (at file n : ℕ) → at ≤ n → file < n + 1 → file ≢ at → (was : ℕ) × (was < n) × (file ≡ shifted at was)
unshifted at file n within inside differ = elim (cases_lt file at) [
  | inl low ↦ (file, omega (arith, low, within), sym (shifted_low at file low))
  | inr high ↦
      let above : at ≤ file - 1 = omega (arith, high, differ) in
      (file - 1, omega (arith, inside, high, differ), sym (shifted_high at (file - 1) above ∙ omega (arith, high, differ)))
]

pub length-insert_at : {X : Type 0} (i : ℕ) (x : X) (xs : List X) → length (insert_at i x xs) ≡ length xs + 1
length-insert_at zero x xs = omega arith
length-insert_at (suc i) x [] = refl
length-insert_at (suc i) x (y ∷ ys) = omega (arith, length-insert_at i x ys)

pub insert_here : {X : Type 0} (i : ℕ) (x : X) (xs : List X) (d : X) → i ≤ length xs → get_or (insert_at i x xs) i d ≡ x
insert_here zero x xs d within = refl
insert_here (suc i) x [] d within = absurd (omega (arith, within))
insert_here (suc i) x (y ∷ ys) d within = insert_here i x ys d (omega (arith, within))

pub insert_low : {X : Type 0} (i k : ℕ) (x : X) (xs : List X) (d : X) → i ≤ length xs → k < i → get_or (insert_at i x xs) k d ≡ get_or xs k d
insert_low zero k x xs d within low = absurd (omega (arith, low))
insert_low (suc i) k x [] d within low = absurd (omega (arith, within))
insert_low (suc i) zero x (y ∷ ys) d within low = refl
insert_low (suc i) (suc k) x (y ∷ ys) d within low = insert_low i k x ys d (omega (arith, within)) (omega (arith, low))

pub insert_high : {X : Type 0} (i k : ℕ) (x : X) (xs : List X) (d : X) → i ≤ length xs → i ≤ k → get_or (insert_at i x xs) (suc k) d ≡ get_or xs k d
insert_high zero k x xs d within high = refl
insert_high (suc i) k x [] d within high = absurd (omega (arith, within))
insert_high (suc i) zero x (y ∷ ys) d within high = absurd (omega (arith, high))
insert_high (suc i) (suc k) x (y ∷ ys) d within high = insert_high i k x ys d (omega (arith, within)) (omega (arith, high))

pub insert_shifted : {X : Type 0} (i k : ℕ) (x : X) (xs : List X) (d : X) → i ≤ length xs → get_or (insert_at i x xs) (shifted i k) d ≡ get_or xs k d
insert_shifted i k x xs d within = elim (cases_lt k i) [
  | inl low ↦ ap (λ n. get_or (insert_at i x xs) n d) (shifted_low i k low) ∙ insert_low i k x xs d within low
  | inr high ↦
      let past : i ≤ k = omega (arith, high) in
      ap (λ n. get_or (insert_at i x xs) n d) (shifted_high i k past ∙ omega arith) ∙ insert_high i k x xs d within past
]
