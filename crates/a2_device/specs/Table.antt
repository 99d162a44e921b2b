-- The table of the places that a walk over a file has met.
use Rattle.std.specs.Prelude.{◌≡◌, ◌≢◌, ℕ, Bool, true, false, List, slice_index_or, AllPairs, Contains}
use Rattle.a2_device.specs.declared.part.Part.{Part}

-- the table has the places of the parts so far, each of one part
pub record IsTable (met : List Bool) (parts : List Part) : Type 0 where
  pub all : (part : Part) → Contains parts part → slice_index_or met part.place false ≡ true
  pub has : (place : ℕ) → slice_index_or met place false ≡ true
      → (part : Part) × Contains parts part × (part.place ≡ place)
  pub once : AllPairs (λ part later. part.place ≢ later.place) parts
