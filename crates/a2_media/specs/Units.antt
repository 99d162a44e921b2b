-- The units of an image by place, each there or not.
use Rattle.std.specs.Prelude.{◌≡◌, ◌<◌, ℕ, List, filter, length, map, replicate, Option, Some, None, is_none, unwrap_or, slice_index_or}
use Rattle.std.specs.List.{range_with_len}

-- the unit at a place, or nothing where it can't be read
abbrev pub unit_in : List (Option (List ℕ)) → ℕ → Option (List ℕ)
unit_in units place = slice_index_or units place None

-- the units as a device answers them; one that can't be read stands as zeros
unfoldable pub stored_units : ℕ → List (Option (List ℕ)) → List (List ℕ)
stored_units size units = map (λ unit. unwrap_or unit (replicate size 0)) units

-- the places of those that can't be read, in rising order
unfoldable pub unreadable_places : List (Option (List ℕ)) → List ℕ
unreadable_places units = filter (λ place. is_none (unit_in units place)) (range_with_len 0 (length units))

-- a unit at each place, of one size where it is there
pub record AreUnits (size places : ℕ) (units : List (Option (List ℕ))) : Type 0 where
  pub count : length units ≡ places
  pub sized : (place : ℕ) (unit : List ℕ) → place < places → unit_in units place ≡ Some unit → length unit ≡ size
