-- Places in an order, and a table with the number of each.
use Rattle.std.specs.Prelude.{◌≡◌, ◌<◌, ℕ, List, Option, Some, None, slice_get, slice_index, slice_index_or}

-- the number that a table has for a place, if it has one
abbrev pub number_in : List (Option ℕ) → ℕ → Option ℕ
number_in numbers place = slice_index_or numbers place None

-- a number in the table is that of its place, and each of the first places of the order has one
pub record AreNumbers (order : List ℕ) (first : ℕ) (numbers : List (Option ℕ)) : Type 0 where
  pub named : (place number : ℕ) → number_in numbers place ≡ Some number → slice_get order number ≡ Some place
  pub all : (k : ℕ) → k < first → (number : ℕ) × (number_in numbers (slice_index order k) ≡ Some number)
