-- What block 2 and the whole walk tell of a volume.
use Rattle.std.proofs.Common.{◌≡◌, ◌≤◌, ◌<◌, ◌+◌, ℕ, Bool, true, false, List, [], length, refl, sym, ◌∙◌, ap, subst, arith}
use Rattle.a2_device.specs.Device.{unit_at}
use Rattle.pro_dir.specs.declared.entry.Entry.{Entry}
use Rattle.pro_dir.specs.declared.reading.FreeSlot.{FreeSlot}
use Rattle.pro_dir.specs.Entry.{slot_bytes}
use Rattle.pro_dir.specs.Tree.{HasKind, HasSizes, IsTree}
use Rattle.pro_dir.specs.Volume.{Describes, HasBadMap, HasGeometry, HasMap, map_blocks, map_first, total_blocks}
use Rattle.pro_dir.specs.Walk.{IsListing, IsTable, IsVolumeKey, is_met}

-- block 2 has the header of a volume of so many blocks
pub volume_key : (store : List (List ℕ)) (unit : List ℕ) → unit ≡ unit_at store 2 → HasKind 0x0f unit → HasSizes unit → IsVolumeKey store unit
volume_key store unit here kind_is sizes = record { here = here; kind_is = kind_is; sizes = sizes }

pub has_geometry : (store : List (List ℕ)) (unit header : List ℕ) (places : ℕ) → IsVolumeKey store unit → header ≡ slot_bytes unit 0 → total_blocks header ≡ places → places ≡ length store
    → HasGeometry store
has_geometry store unit header places key header_is total all = record {
  kind_is = subst (HasKind 0x0f) key.here key.kind_is;
  sizes = subst HasSizes key.here key.sizes;
  total = ap (λ u. total_blocks (slot_bytes u 0)) (sym key.here) ∙ ap total_blocks (sym header_is) ∙ total ∙ all;
}

pub no_geometry : (store : List (List ℕ)) (unit header : List ℕ) (places : ℕ) → unit ≡ unit_at store 2 → header ≡ slot_bytes unit 0 → places ≡ length store
    → (¬ (HasKind 0x0f unit × HasSizes unit × (total_blocks header ≡ places))) → ¬ HasGeometry store
no_geometry store unit header places here header_is all none = λ has.
    none (
      subst (HasKind 0x0f) (sym here) has.kind_is,
      subst HasSizes (sym here) has.sizes,
      ap total_blocks header_is ∙ ap (λ u. total_blocks (slot_bytes u 0)) here ∙ has.total ∙ sym all,
    )

-- the blocks of the map are new
abbrev pub AreNew : ℕ → ℕ → List Bool → Type 0
AreNew first places met = (place : ℕ) → first ≤ place → place < first + map_blocks places → (2 ≤ place) × (place < places) × (is_met met place ≡ false)

met_or_not : (met : List Bool) (place : ℕ) (b : Bool) → is_met met place ≡ b → ((is_met met place ≡ true) → ⊥) → is_met met place ≡ false
met_or_not met place true is none = absurd (none is)
met_or_not met place false is none = is

-- so the map is well placed, and else it is not
pub has_map : (store : List (List ℕ)) (places first : ℕ) (met : List Bool) (blocks : List ℕ) → places ≡ length store → IsTable places met blocks → AreNew first places met
    → HasMap store first blocks
has_map store places first met blocks all table new place from below =
    let is = new place from (omega (arith, below, ap map_blocks all)) in
    ((is.0, omega (arith, is.1, all)), λ has. let met_is = table.all place has in let unmet = is.2 in cc)

pub are_new : (store : List (List ℕ)) (places first : ℕ) (met : List Bool) (blocks : List ℕ) → places ≡ length store → IsTable places met blocks → HasMap store first blocks
    → AreNew first places met
are_new store places first met blocks all table has place from below =
    let is = has place from (omega (arith, below, ap map_blocks all)) in
    (is.0.0, omega (arith, is.0.1, all), met_or_not met place (is_met met place) refl (λ met_is. is.1 (table.has place met_is)))

whole_tree : (store : List (List ℕ)) (places : ℕ) (met : List Bool) (blocks : List ℕ) (entries : List Entry) (free : List FreeSlot) → IsTable places met blocks
    → IsListing store blocks entries [] free → IsTree store blocks entries
whole_tree store places met blocks entries free table listing = record { listed = listing.listed; once = table.once }

pub bad_map : (store : List (List ℕ)) (places first : ℕ) (unit header : List ℕ) (met : List Bool) (blocks : List ℕ) (entries : List Entry) (free : List FreeSlot) → places ≡ length store
    → IsVolumeKey store unit → header ≡ slot_bytes unit 0 → first ≡ map_first header → IsTable places met blocks → IsListing store blocks entries [] free → (¬ AreNew first places met)
    → HasBadMap store
bad_map store places first unit header met blocks entries free all key header_is first_is table listing not_new = record {
  blocks = blocks;
  entries = entries;
  tree = whole_tree store places met blocks entries free table listing;
  bad = λ has. not_new (are_new store places first met blocks all table (subst (λ n. HasMap store n blocks) (sym (first_is ∙ ap map_first (header_is ∙ ap (λ u. slot_bytes u 0) key.here))) has));
}

pub described : (store : List (List ℕ)) (places first : ℕ) (unit header : List ℕ) (met : List Bool) (blocks : List ℕ) (entries : List Entry) (free : List FreeSlot) → places ≡ length store
    → IsVolumeKey store unit → header ≡ slot_bytes unit 0 → total_blocks header ≡ places → first ≡ map_first header → IsTable places met blocks → IsListing store blocks entries [] free
    → AreNew first places met → Describes store (record { header = header; blocks = blocks; entries = entries })
described store places first unit header met blocks entries free all key header_is total first_is table listing new = record {
  geometry = has_geometry store unit header places key header_is total all;
  header = header_is ∙ ap (λ u. slot_bytes u 0) key.here;
  tree = whole_tree store places met blocks entries free table listing;
  map = subst (λ n. HasMap store n blocks) first_is (has_map store places first met blocks all table new);
}
