-- The writes of an edit, and the store that they leave.
use Rattle.std.specs.Prelude.{ℕ, List, [], ◌∷◌, slice_set}

-- a unit, and the place that it is for
pub record Write : Type 0 where
  pub place : ℕ
  pub unit : List ℕ

-- a store once these writes stand, each made in turn
abbrev pub store_after : List Write → List (List ℕ) → List (List ℕ)
store_after [] store = store
store_after (write ∷ writes) store = store_after writes (slice_set store write.place write.unit)
