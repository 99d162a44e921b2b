-- The fronts of one write, and of two, that are not empty.
use Rattle.std.specs.Prelude.{◌<◌, ◌≤◌, ℕ, zero, suc, List, [], ◌∷◌, take}
use Rattle.std.proofs.Common.{arith}
use Rattle.vol_laws.specs.Writes.{Write, store_after}

module _ (P : List (List ℕ) → Type 0) (store : List (List ℕ)) where
  pub one_front : (write : Write) → P (store_after (write ∷ []) store) → (n : ℕ) → 0 < n → n ≤ 1 → P (store_after (take n (write ∷ [])) store)
  one_front write stands zero some below = absurd (omega (arith, some))
  one_front write stands (suc zero) some below = stands
  one_front write stands (suc (suc n)) some below = absurd (omega (arith, below))

  pub two_fronts : (first second : Write) → P (store_after (first ∷ []) store) → P (store_after (first ∷ second ∷ []) store)
      → (n : ℕ) → 0 < n → n ≤ 2 → P (store_after (take n (first ∷ second ∷ [])) store)
  two_fronts first second stands both zero some below = absurd (omega (arith, some))
  two_fronts first second stands both (suc zero) some below = stands
  two_fronts first second stands both (suc (suc zero)) some below = both
  two_fronts first second stands both (suc (suc (suc n))) some below = absurd (omega (arith, below))
