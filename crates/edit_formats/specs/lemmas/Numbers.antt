-- Two numbers compared.
use Rattle.std.specs.Prelude.{◌≡◌, ◌≢◌, ℕ, ◌==◌, true, false}
use Rattle.std.proofs.Common.{inl, inr}
use Rattle.std.proofs.lemmas.Bool.{cases_Bool, eqb-true, eqb-false}

pub same_number : (a b : ℕ) → a ≡ b → (a == b) ≡ true
same_number a b same = elim (cases_Bool (a == b)) [
  | inl is ↦ is
  | inr is ↦ absurd (eqb-false a b is same)
]

pub other_number : (a b : ℕ) → a ≢ b → (a == b) ≡ false
other_number a b apart = elim (cases_Bool (a == b)) [
  | inl is ↦ absurd (apart (eqb-true a b is))
  | inr is ↦ is
]
