-- A slot of the catalog that is filled or emptied: the directory has one entry more, or less.
use Rattle.std.specs.Prelude.{◌≡◌, ◌≢◌, ◌<◌, ◌≤◌, ℕ, Bool, true, false, List, length, map, take, filter, slice_index, Contains}
use Rattle.std.specs.List.{range_with_len}
use Rattle.std.proofs.Common.{sym, ◌∙◌, ap, subst, arith, get_or, inl, inr}
use Rattle.std.proofs.lemmas.Bool.{cases_eq}
use Rattle.std.proofs.lemmas.List.FromFn.{length-map-range_with_len, get_or-map-range_with_len}
use Rattle.a2_device.specs.Device.{unit_at}
use Rattle.dos_vtoc.specs.Vtoc.{HasGeometry}
use Rattle.dos_catalog.specs.declared.entry.Entry.{Entry}
use Rattle.dos_catalog.specs.Entry.{entry_at, is_in_use, entries_of, entries_in}
use Rattle.dos_catalog.specs.Catalog.{IsCatalog}
use Rattle.vol_format.specs.Directory.{Listed}
use Rattle.dos_format.specs.Dos.{dos_entry, numbered, dos_directory, DescribesDos}
use Rattle.dos_format.specs.lemmas.DosChain.{HaveSameLinks, catalog_same, sectors_on_track}
use Rattle.dos_format.specs.lemmas.DosDirectory.{no_list}
use Rattle.vol_laws.specs.Inserted.{insert_at, inserted, shifted_entry}
use Rattle.dos_format.specs.Slots.{number_of_slot}
use Rattle.vol_laws.proofs.Filling.{filter_filled, flat_filled, index_within, length-filter_take}
use Rattle.dos_format.proofs.Numbers.{numbered_more}

-- Two stores that differ in one slot of one sector alone, which has no entry in use in the first and one in the second.
pub record IsFilled (less more : List (List ℕ)) (place slot : ℕ) : Type 0 where
  pub size : length more ≡ length less
  pub elsewhere : (other : ℕ) → other ≢ place → unit_at more other ≡ unit_at less other
  pub below : slot < 7
  pub unused : is_in_use (entry_at place (unit_at less place) slot) ≡ false
  pub used : is_in_use (entry_at place (unit_at more place) slot) ≡ true
  pub others : (other : ℕ) → other ≢ slot → entry_at place (unit_at more place) other ≡ entry_at place (unit_at less place) other
  pub track : slice_index (unit_at more place) 1 ≡ slice_index (unit_at less place) 1
  pub sector : slice_index (unit_at more place) 2 ≡ slice_index (unit_at less place) 2

-- an entry in a slot would stand among those in use
pub number_within : (store : List (List ℕ)) (sectors : List ℕ) (place slot : ℕ) → Contains sectors place → number_of_slot store sectors place slot ≤ length (entries_in store sectors)
number_within store sectors place slot has =
    index_within (λ p. entries_of p (unit_at store p)) place (length (filter is_in_use (take slot (map (entry_at place (unit_at store place)) (range_with_len 0 7)))))
    (length-filter_take is_in_use slot (map (entry_at place (unit_at store place)) (range_with_len 0 7))) sectors has

module _ (less more : List (List ℕ)) (place slot : ℕ) (filled : IsFilled less more place slot) where
  abbrev entry : Entry
  entry = entry_at place (unit_at more place) slot

  abbrev before : ℕ
  before = length (filter is_in_use (take slot (map (entry_at place (unit_at less place)) (range_with_len 0 7))))

  slots : (unit : List ℕ) → length (map (entry_at place unit) (range_with_len 0 7)) ≡ 7
  slots unit = length-map-range_with_len (entry_at place unit) 0 7

  slot_of : (unit : List ℕ) (k : ℕ) → k < 7 → get_or (map (entry_at place unit) (range_with_len 0 7)) k no_list ≡ entry_at place unit k
  slot_of unit k low = get_or-map-range_with_len (entry_at place unit) 0 7 k k no_list low (omega arith)

  sector_filled : entries_of place (unit_at more place) ≡ insert_at before entry (entries_of place (unit_at less place))
  sector_filled =
      let old = unit_at less place in
      let new = unit_at more place in
      filter_filled is_in_use slot no_list (map (entry_at place old) (range_with_len 0 7)) (map (entry_at place new) (range_with_len 0 7))
      (slots new ∙ sym (slots old)) (omega (arith, slots old, filled.below))
      (λ j within differ.
      let low : j < 7 = omega (arith, within, slots old) in
      slot_of new j low ∙ filled.others j differ ∙ sym (slot_of old j low))
      (ap is_in_use (slot_of old slot filled.below) ∙ filled.unused)
      (ap is_in_use (slot_of new slot filled.below) ∙ filled.used)
      ∙ ap (λ e. insert_at before e (entries_of place old)) (slot_of new slot filled.below)

  module _ (sectors : List ℕ) (catalog : IsCatalog less sectors) (has : Contains sectors place) where
    within_sector : before ≤ length (entries_of place (unit_at less place))
    within_sector = length-filter_take is_in_use slot (map (entry_at place (unit_at less place)) (range_with_len 0 7))

    same_elsewhere : (other : ℕ) → other ≢ place → entries_of other (unit_at more other) ≡ entries_of other (unit_at less other)
    same_elsewhere other differ = ap (entries_of other) (filled.elsewhere other differ)

    pub entries_more : entries_in more sectors ≡ insert_at (number_of_slot less sectors place slot) entry (entries_in less sectors)
    entries_more = flat_filled (λ p. entries_of p (unit_at less p)) (λ p. entries_of p (unit_at more p)) place before entry
        within_sector sector_filled same_elsewhere sectors catalog.once has

    links : HaveSameLinks less more
    links at near = elim (cases_eq at place) [
      | inl same ↦ (
        subst (λ p. slice_index (unit_at more p) 1 ≡ slice_index (unit_at less p) 1) (sym same) filled.track,
        subst (λ p. slice_index (unit_at more p) 2 ≡ slice_index (unit_at less p) 2) (sym same) filled.sector,
      )
      | inr differ ↦ (ap (λ u. slice_index u 1) (filled.elsewhere at differ), ap (λ u. slice_index u 2) (filled.elsewhere at differ))
    ]

    vtoc_same : unit_at more 272 ≡ unit_at less 272
    vtoc_same = filled.elsewhere 272 (λ same.
        let on : 272 < place = subst (λ p. 272 < p) has.2 (sectors_on_track less 272 sectors catalog.last catalog.leads has.0 place has.1).0 in
        omega (arith, on, same))

    module _ (data_disk : Bool) (reserved : List Bool) where
      -- what is said of the two stores
      pub directory_more : dos_directory data_disk reserved (unit_at more 272) (entries_in more sectors)
          ≡ inserted (dos_directory data_disk reserved (unit_at less 272) (entries_in less sectors)) (number_of_slot less sectors place slot)
          (dos_entry (number_of_slot less sectors place slot) entry)
      directory_more =
          let index = number_of_slot less sectors place slot in
          ap (λ vtoc. dos_directory data_disk reserved vtoc (entries_in more sectors)) vtoc_same
          ∙ ap (dos_directory data_disk reserved (unit_at less 272)) entries_more
          ∙ ap (λ (listed : List Listed). record (dos_directory data_disk reserved (unit_at less 272) (entries_in less sectors)) { listed = listed })
          (numbered_more index 0 entry (entries_in less sectors) (number_within less sectors place slot has)
          ∙ ap (λ n. insert_at index (dos_entry n entry) (map (shifted_entry n) (numbered 0 (entries_in less sectors)))) (omega arith))

      pub more_described : length less ≡ 560 → HasGeometry (unit_at less 272)
          → DescribesDos data_disk reserved more (inserted (dos_directory data_disk reserved (unit_at less 272) (entries_in less sectors)) (number_of_slot less sectors place slot)
          (dos_entry (number_of_slot less sectors place slot) entry))
      more_described size geometry = record {
        size = filled.size ∙ size;
        geometry = subst HasGeometry (sym vtoc_same) geometry;
        sectors = sectors;
        catalog = catalog_same less more links sectors catalog;
        says = sym directory_more;
      }
