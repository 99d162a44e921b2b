-- What is written elsewhere leaves the catalog, its free slots and their numbers.
use Rattle.std.specs.Prelude.{◌≡◌, ◌<◌, ◌≤◌, ℕ, ◌+◌, ◌-◌, ◌==◌, ◌%◌, ◌^◌, suc, if◌then◌else◌, Bool, true, false, List, [], ◌∷◌, length, take, map, filter, slice_index, slice_set, bit_and, bit_or, All, Contains}
use Rattle.std.specs.List.{range_with_len}
use Rattle.std.proofs.Common.{refl, sym, ◌∙◌, ap, arith, subst, get_or, inl, inr}
use Rattle.std.proofs.lemmas.Bool.{cases_eq}
use Rattle.std.proofs.lemmas.List.{get_or-set_same, get_or-set_other}
use Rattle.a2_device.specs.Device.{unit_at}
use Rattle.dos_vtoc.specs.Vtoc.{byte_of_place}
use Rattle.dos_catalog.specs.Catalog.{IsCatalog}
use Rattle.dos_catalog.specs.Entry.{entry_at, is_in_use, entries_of}
use Rattle.vol_format.specs.Directory.{Directory, is_system}
use Rattle.dos_format.specs.Dos.{DescribesDos, dos_meaning, dos_with_free}
use Rattle.dos_format.specs.lemmas.DosChain.{IsOnTrack, HaveSameLinks, catalog_same, sectors_on_track}
use Rattle.dos_format.specs.lemmas.DosMarks.{track_inside}
use Rattle.vol_laws.specs.Marked.{with_marks}
use Rattle.vol_laws.specs.declared.mark.Mark.{Mark}
use Rattle.dos_format.specs.SameCatalog.{HasSameCatalog}
use Rattle.dos_format.specs.Slots.{IsFreeSlot, number_of_slot}
use Rattle.vol_laws.specs.Inserted.{index_in_all}

-- a unit written outside the system
pub outside_leaves : (data_disk : Bool) (reserved : List Bool) (store : List (List ℕ)) (directory : Directory) (place : ℕ) (unit : List ℕ)
    → DescribesDos data_disk reserved store directory → is_system directory place ≡ false → HasSameCatalog store (slice_set store place unit)
outside_leaves data_disk reserved store directory place unit described outside = record {
  sectors = λ at low high. kept at (omega (arith, low)) high;
  track = ap (λ u. slice_index u 1) (kept 272 (omega arith) (omega arith));
  sector = ap (λ u. slice_index u 2) (kept 272 (omega arith) (omega arith));
}
  where
    kept : (at : ℕ) → 272 ≤ at → at < 288 → unit_at (slice_set store place unit) at ≡ unit_at store at
    kept at low high = get_or-set_other store place at unit [] (λ same.
        let system : is_system directory place ≡ true = subst (λ p. is_system directory p ≡ true) same (track_inside data_disk reserved store directory described at (low, high)) in
        absurd (cc (outside, system)))

-- marks made in the VTOC
before_map : (unit : List ℕ) (place : ℕ) (free : Bool) (byte : ℕ) → byte < 0x38 → slice_index (dos_with_free unit place free) byte ≡ slice_index unit byte
before_map unit place true byte before =
    get_or-set_other unit (byte_of_place place) byte (bit_or (slice_index unit (byte_of_place place)) (2 ^ (place % 8))) 0 (λ e. omega (arith, e, before))
before_map unit place false byte before =
    get_or-set_other unit (byte_of_place place) byte (bit_and (slice_index unit (byte_of_place place)) (255 - 2 ^ (place % 8))) 0 (λ e. omega (arith, e, before))

before_marks : (data_disk : Bool) (reserved : List Bool) (marks : List Mark) (unit : List ℕ) (byte : ℕ) → byte < 0x38
    → slice_index (with_marks (dos_meaning data_disk reserved) unit marks) byte ≡ slice_index unit byte
before_marks data_disk reserved [] unit byte before = refl
before_marks data_disk reserved (mark ∷ marks) unit byte before =
    before_marks data_disk reserved marks (dos_with_free unit mark.place mark.free) byte before ∙ before_map unit mark.place mark.free byte before

pub marks_leave : (data_disk : Bool) (reserved : List Bool) (store : List (List ℕ)) (marks : List Mark) → length store ≡ 560
    → HasSameCatalog store (slice_set store 272 (with_marks (dos_meaning data_disk reserved) (unit_at store 272) marks))
marks_leave data_disk reserved store marks size =
    let unit = with_marks (dos_meaning data_disk reserved) (unit_at store 272) marks in
    let here = get_or-set_same store 272 unit [] (omega (arith, size)) in
    record {
      sectors = λ at low high. get_or-set_other store 272 at unit [] (λ same. omega (arith, same, low));
      track = ap (λ u. slice_index u 1) here ∙ before_marks data_disk reserved marks (unit_at store 272) 1 (omega arith);
      sector = ap (λ u. slice_index u 2) here ∙ before_marks data_disk reserved marks (unit_at store 272) 2 (omega arith);
    }

pub both_leave : (first second third : List (List ℕ)) → HasSameCatalog first second → HasSameCatalog second third → HasSameCatalog first third
both_leave first second third one two = record {
  sectors = λ at low high. two.sectors at low high ∙ one.sectors at low high;
  track = two.track ∙ one.track;
  sector = two.sector ∙ one.sector;
}

module _ (old new : List (List ℕ)) (sectors : List ℕ) (same : HasSameCatalog old new) (catalog : IsCatalog old sectors) where
  links : HaveSameLinks old new
  links at near = elim (cases_eq at 272) [
    | inl vtoc ↦ subst (λ p. (slice_index (unit_at new p) 1 ≡ slice_index (unit_at old p) 1) × (slice_index (unit_at new p) 2 ≡ slice_index (unit_at old p) 2)) (sym vtoc)
        (same.track, same.sector)
    | inr behind ↦
        let unit = same.sectors at (omega (arith, near.0, behind)) near.1 in
        (ap (λ u. slice_index u 1) unit, ap (λ u. slice_index u 2) unit)
  ]

  pub catalog_stays : IsCatalog new sectors
  catalog_stays = catalog_same old new links sectors catalog

  on : All IsOnTrack sectors
  on = sectors_on_track old 272 sectors catalog.last catalog.leads

  units : All (λ p. unit_at new p ≡ unit_at old p) sectors
  units k d within = same.sectors (get_or sectors k d) (on k d within).0 (on k d within).1

  pub free_stays : (place slot : ℕ) → IsFreeSlot old sectors place slot → IsFreeSlot new sectors place slot
  free_stays place slot free = record {
    of_catalog = free.of_catalog;
    below = free.below;
    unused = ap (λ u. is_in_use (entry_at place u slot)) (here place free.of_catalog) ∙ free.unused;
  }
    where
      here : (p : ℕ) → Contains sectors p → unit_at new p ≡ unit_at old p
      here p has = subst (λ q. unit_at new q ≡ unit_at old q) has.2 (units has.0 p has.1)

  index_stays : {X : Type 0} (f g : ℕ → List X) (place k : ℕ) (places : List ℕ) → All (λ p. g p ≡ f p) places → index_in_all g places place k ≡ index_in_all f places place k
  index_stays f g place k [] all = refl
  index_stays f g place k (first ∷ rest) all = by_test (index_stays f g place k rest (λ i d within. all (suc i) d (omega (arith, within)))) (first == place)
    where
      by_test : index_in_all g rest place k ≡ index_in_all f rest place k → (b : Bool)
          → (if b then k else (length (g first) + index_in_all g rest place k)) ≡ (if b then k else (length (f first) + index_in_all f rest place k))
      by_test later true = refl
      by_test later false = omega (arith, later, ap length (all 0 first (omega arith)))

  pub number_stays : (place slot : ℕ) → Contains sectors place → number_of_slot new sectors place slot ≡ number_of_slot old sectors place slot
  number_stays place slot has =
      let here : unit_at new place ≡ unit_at old place = subst (λ q. unit_at new q ≡ unit_at old q) has.2 (units has.0 place has.1) in
      index_stays (λ p. entries_of p (unit_at old p)) (λ p. entries_of p (unit_at new p)) place
      (length (filter is_in_use (take slot (map (entry_at place (unit_at new place)) (range_with_len 0 7))))) sectors
      (λ k d within. ap (entries_of (get_or sectors k d)) (units k d within))
      ∙ ap (λ u. index_in_all (λ p. entries_of p (unit_at old p)) sectors place (length (filter is_in_use (take slot (map (entry_at place u) (range_with_len 0 7)))))) here
