-- The chain of catalog sectors: where its sectors stand, and what a write leaves of it.
use Rattle.std.specs.Prelude.{◌≡◌, ◌≢◌, ◌<◌, ◌≤◌, ℕ, ◌+◌, ◌-◌, suc, List, [], ◌∷◌, ◌++◌, length, map, slice_index, All, AllPairs}
use Rattle.std.proofs.Common.{refl, sym, ◌∙◌, ap, arith, subst, get_or}
use Rattle.std.proofs.lemmas.List.{length-map, get_or-map}
use Rattle.std.proofs.lemmas.List.Elements.{All-cons, All-nil}
use Rattle.vol_layout.proofs.Lists.{length_distinct}
use Rattle.a2_device.specs.Device.{unit_at}
use Rattle.dos_catalog.specs.Entry.{entries_of, entries_in}
use Rattle.dos_catalog.specs.Catalog.{IsLink, HasNoLink, Leads, IsCatalog}

-- a sector of the catalog stands on track 17, behind the VTOC
abbrev pub IsOnTrack : ℕ → Type 0
IsOnTrack place = (272 < place) × (place < 288)

pub linked_on_track : (unit : List ℕ) (place : ℕ) → IsLink unit → place ≡ 272 + slice_index unit 2 → IsOnTrack place
linked_on_track unit place link named = (omega (arith, link.1, named), omega (arith, link.2, named))

pub sectors_on_track : (store : List (List ℕ)) (from : ℕ) (sectors : List ℕ) (last : ℕ) → Leads store from sectors last → All IsOnTrack sectors
sectors_on_track store from [] last way = All-nil IsOnTrack
sectors_on_track store from (place ∷ rest) last way =
    All-cons IsOnTrack place rest (linked_on_track (unit_at store from) place way.0 way.1) (sectors_on_track store place rest last way.2)

-- two stores have the same links in the VTOC and in the sectors of track 17
abbrev pub HaveSameLinks : List (List ℕ) → List (List ℕ) → Type 0
HaveSameLinks store new = (at : ℕ) → (272 ≤ at) × (at < 288)
    → (slice_index (unit_at new at) 1 ≡ slice_index (unit_at store at) 1) × (slice_index (unit_at new at) 2 ≡ slice_index (unit_at store at) 2)

link_same : (unit new : List ℕ) → slice_index new 1 ≡ slice_index unit 1 → slice_index new 2 ≡ slice_index unit 2 → IsLink unit → IsLink new
link_same unit new track sector link = (track ∙ link.0, omega (arith, sector, link.1), omega (arith, sector, link.2))

module _ (store new : List (List ℕ)) (same : HaveSameLinks store new) where
  -- the links lead over the same sectors, and the last has the same link
  leads_same : (from : ℕ) (sectors : List ℕ) (last : ℕ) → (272 ≤ from) × (from < 288) → Leads store from sectors last
      → Leads new from sectors last × (HasNoLink (unit_at store last) → HasNoLink (unit_at new last))
  leads_same from [] last near way =
      (way, λ none. (same last (subst (λ p. (272 ≤ p) × (p < 288)) (sym way) near)).0 ∙ none)
  leads_same from (place ∷ rest) last near way =
      let on = linked_on_track (unit_at store from) place way.0 way.1 in
      let further = leads_same place rest last (omega (arith, on.0), on.1) way.2 in
      let links = same from near in
      ((link_same (unit_at store from) (unit_at new from) links.0 links.1 way.0, way.1 ∙ ap (λ n. 272 + n) (sym links.1), further.0), further.1)

  pub catalog_same : (sectors : List ℕ) → IsCatalog store sectors → IsCatalog new sectors
  catalog_same sectors catalog =
      let way = leads_same 272 sectors catalog.last (omega arith, omega arith) catalog.leads in
      record { last = catalog.last; leads = way.0; ends = way.1 catalog.ends; once = catalog.once }

-- the entries of sectors whose units are the same
pub entries_same : (store new : List (List ℕ)) (sectors : List ℕ) → All (λ place. unit_at new place ≡ unit_at store place) sectors → entries_in new sectors ≡ entries_in store sectors
entries_same store new [] same = refl
entries_same store new (place ∷ rest) same =
    ap (λ u. entries_of place u ++ entries_in new rest) (same 0 place (omega arith))
    ∙ ap (λ es. entries_of place (unit_at store place) ++ es) (entries_same store new rest (λ k d within. same (suc k) d (omega (arith, within))))

-- there are no more sectors than a track has
pub few_sectors : (sectors : List ℕ) → All IsOnTrack sectors → AllPairs (λ place later. place ≢ later) sectors → length sectors ≤ 16
few_sectors sectors on once = omega (arith, length-map sectors (λ (p : ℕ). p - 272), length_distinct 16 (map (λ p. p - 272) sectors) distinct below)
  where
    at : (k d : ℕ) → k < length sectors → get_or (map (λ p. p - 272) sectors) k d ≡ get_or sectors k d - 272
    at k d within = get_or-map (λ p. p - 272) sectors k d d within

    distinct : AllPairs (λ x y. x ≢ y) (map (λ p. p - 272) sectors)
    distinct i j d less within same =
        let inside : j < length sectors = omega (arith, within, length-map sectors (λ (p : ℕ). p - 272)) in
        let first : i < length sectors = omega (arith, less, inside) in
        once i j d less inside (omega (arith, at i d first, at j d inside, same, (on i d first).0, (on j d inside).0))

    below : All (λ x. x < 16) (map (λ p. p - 272) sectors)
    below k d within =
        let inside : k < length sectors = omega (arith, within, length-map sectors (λ (p : ℕ). p - 272)) in
        omega (arith, at k d inside, (on k d inside).1)
