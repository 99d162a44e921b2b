-- The elements of a list that pass a test.
use Rattle.std.proofs.Common.{refl, ◌≡◌, ◌⊎◌, ℕ, Bool, true, false, List, [], ◌∷◌, ap, sym, ◌∙◌, arith, ⊎_elim, inl, inr}
use Rattle.std.specs.Prelude.{filter, if◌then◌else◌}
use Rattle.std.specs.List.{Contains}
use Rattle.vol_layout.proofs.Lists.{Contains-cons, Contains-cases}

pub in_filter : (p : ℕ → Bool) (xs : List ℕ) (y : ℕ) → Contains xs y → p y ≡ true → Contains (filter p xs) y
in_filter p [] y has passes = has
in_filter p (x ∷ xs) y has passes = by_test (in_filter p xs y) (p x) refl (Contains-cases x xs y has)
  where
    by_test : (Contains xs y → p y ≡ true → Contains (filter p xs) y) → (b : Bool) → p x ≡ b → (x ≡ y) ⊎ Contains xs y
        → Contains (if b then x ∷ filter p xs else filter p xs) y
    by_test rest true is (inl same) = (0, omega arith, same)
    by_test rest true is (inr later) = Contains-cons x (filter p xs) y (rest later passes)
    by_test rest false is (inl same) = absurd (cc (is, same, passes))
    by_test rest false is (inr later) = rest later passes

pub out_of_filter : (p : ℕ → Bool) (xs : List ℕ) (y : ℕ) → Contains (filter p xs) y → Contains xs y × (p y ≡ true)
out_of_filter p [] y has = absurd (omega (arith, has.1))
out_of_filter p (x ∷ xs) y has = by_test (out_of_filter p xs y) (p x) refl has
  where
    later : Contains xs y × (p y ≡ true) → Contains (x ∷ xs) y × (p y ≡ true)
    later rest = (Contains-cons x xs y rest.0, rest.1)

    by_test : (Contains (filter p xs) y → Contains xs y × (p y ≡ true)) → (b : Bool) → p x ≡ b
        → Contains (if b then x ∷ filter p xs else filter p xs) y → Contains (x ∷ xs) y × (p y ≡ true)
    by_test rest true is has' = ⊎_elim (λ same. ((0, omega arith, same), ap p (sym same) ∙ is)) (λ more. later (rest more)) (Contains-cases x (filter p xs) y has')
    by_test rest false is has' = later (rest has')
