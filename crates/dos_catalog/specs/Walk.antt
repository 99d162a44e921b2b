-- What is known at each moment of a walk over the catalog.
use Rattle.std.specs.Prelude.{◌≡◌, ◌≢◌, ℕ, ◌+◌, Bool, true, false, not, List, Option, option_map, find, slice_index_or, AllPairs, Contains}
use Rattle.std.specs.List.{range_with_len}
use Rattle.a2_device.specs.Device.{unit_at}
use Rattle.dos_catalog.specs.declared.entry.Entry.{Entry}
use Rattle.dos_catalog.specs.Entry.{entry_at, is_in_use, entries_in}
use Rattle.dos_catalog.specs.Catalog.{Leads}

-- whether a sector was met
abbrev pub is_met : List Bool → ℕ → Bool
is_met met sector = slice_index_or met sector false

-- the table has the sectors so far, each once
pub record IsTable (met : List Bool) (sectors : List ℕ) : Type 0 where
  pub has : (sector : ℕ) → is_met met sector ≡ true → Contains sectors (272 + sector)
  pub all : (sector : ℕ) → Contains sectors (272 + sector) → is_met met sector ≡ true
  pub once : AllPairs (λ place later. place ≢ later) sectors

-- the links lead over the sectors so far to the holder, whose unit is at hand, with their entries
pub record IsWalking (store : List (List ℕ)) (sectors : List ℕ) (entries : List Entry) (holder : ℕ)
    (unit : List ℕ) : Type 0 where
  pub leads : Leads store 272 sectors holder
  pub here : unit ≡ unit_at store holder
  pub taken : entries ≡ entries_in store sectors

-- the first slot of one sector that has no entry in use
unfoldable pub first_free_of : ℕ → List ℕ → Option (ℕ × ℕ)
first_free_of place unit = option_map (λ slot. (place, slot))
    (find (λ slot. not (is_in_use (entry_at place unit slot))) (range_with_len 0 7))
