-- The chain of catalog sectors, as it stands in a store (Beneath Apple DOS, chapter 4).
use Rattle.std.specs.Prelude.{◌≡◌, ◌≢◌, ◌⊎◌, ◌≤◌, ℕ, ◌+◌, List, [], ◌∷◌, slice_index, AllPairs, Contains}
use Rattle.a2_device.specs.Device.{unit_at}
use Rattle.a2_device.specs.declared.fault.Fault.{Fault}
use Rattle.a2_device.specs.declared.fault.Fault.TheVariants.{CatalogLink}

-- a link names a sector of track 17, from 1 to 15
abbrev pub IsLink : List ℕ → Type 0
IsLink unit = (slice_index unit 1 ≡ 17) × (1 ≤ slice_index unit 2) × (slice_index unit 2 ≤ 15)

-- a track byte 00 is no link
abbrev pub HasNoLink : List ℕ → Type 0
HasNoLink unit = slice_index unit 1 ≡ 0

-- the place that a link names
abbrev pub linked : List ℕ → ℕ
linked unit = 272 + slice_index unit 2

-- from the unit at one place, the links lead over these sectors to the last of them
abbrev pub Leads : List (List ℕ) → ℕ → List ℕ → ℕ → Type 0
Leads store from [] last = last ≡ from
Leads store from (place ∷ rest) last =
    IsLink (unit_at store from) × (place ≡ linked (unit_at store from)) × Leads store place rest last

-- the sectors of the catalog: the VTOC's links lead over them to one that has no link, and none stands twice
pub record IsCatalog (store : List (List ℕ)) (sectors : List ℕ) : Type 0 where
  pub last : ℕ
  pub leads : Leads store 272 sectors last
  pub ends : HasNoLink (unit_at store last)
  pub once : AllPairs (λ place later. place ≢ later) sectors

-- the VTOC's links lead over some sectors to one whose link is to none of track 17, sectors 1 to 15, or to a sector
-- that it was led over
pub record HasBadLink (store : List (List ℕ)) (holder : ℕ) : Type 0 where
  pub sectors : List ℕ
  pub leads : Leads store 272 sectors holder
  pub linked_on : ¬ HasNoLink (unit_at store holder)
  pub bad : (¬ IsLink (unit_at store holder))
      ⊎ (IsLink (unit_at store holder) × Contains sectors (linked (unit_at store holder)))

-- a fault of the chain, at the sector that holds the bad link
abbrev pub CatalogFaultAt : List (List ℕ) → Fault → Type 0
CatalogFaultAt store (CatalogLink holder) = HasBadLink store holder
CatalogFaultAt store fault = ⊥
