-- An entry erased: the directory was that of the store after with this entry more.
use Rattle.std.specs.Prelude.{◌≡◌, ◌<◌, ◌≤◌, ℕ, ◌+◌, ◌==◌, not, ◌&&◌, Bool, true, false, List, length, map, take, drop, slice_index, slice_set, Contains}
use Rattle.std.proofs.Common.{refl, sym, ◌∙◌, ap, arith, subst, get_or, inl, inr}
use Rattle.std.proofs.lemmas.Bool.{cases_eq, cases_lt}
use Rattle.std.proofs.lemmas.List.{length-map, length-set, get_or-take, get_or-drop, get_or-set_same, get_or-set_other}
use Rattle.std.proofs.lemmas.List.Elements.{Contains-get_or}
use Rattle.a2_device.specs.Device.{unit_at}
use Rattle.dos_vtoc.specs.Vtoc.{HasGeometry}
use Rattle.dos_catalog.specs.declared.entry.Entry.{Entry}
use Rattle.dos_catalog.specs.Entry.{entry_at, is_in_use, entries_in}
use Rattle.dos_catalog.specs.Catalog.{IsCatalog}
use Rattle.dos_catalog.specs.Writes.{slot_offset, erased}
use Rattle.vol_format.specs.Directory.{Directory, Listed, no_entry, entries, entry_of, is_system}
use Rattle.dos_format.specs.Dos.{dos_entry, dos_directory, DescribesDos}
use Rattle.dos_format.specs.lemmas.DosChain.{HaveSameLinks, catalog_same}
use Rattle.dos_format.specs.lemmas.DosDirectory.{length-numbered, entry_of-dos, no_list}
use Rattle.dos_format.specs.lemmas.DosEntries.{each_entry, each_in_use, on_track, entries_apart}
use Rattle.dos_format.specs.lemmas.DosRoots.{each_stored}
use Rattle.vol_laws.specs.Entered.{HasSameRest}
use Rattle.vol_laws.specs.Inserted.{inserted, shifted_entry}
use Rattle.dos_format.specs.Slots.{IsUsedSlot, number_of_slot}
use Rattle.dos_format.specs.Rewriting.{sector_of_entry, entry_erased}
use Rattle.dos_format.specs.Erasing.{HasErased}
use Rattle.vol_laws.proofs.Inserting.{insert_here, length-insert_at}
use Rattle.dos_format.proofs.OneMore.{IsFilled, number_within, directory_more}
use Rattle.dos_format.proofs.SlotWrites.{empties, says_of, on_catalog, below_last, sector_written}
use Rattle.dos_format.proofs.Windows.{IsSameOutside}

-- where two stores differ in a filled slot alone they have the same links
flip_links : (less more : List (List ℕ)) (place slot : ℕ) → IsFilled less more place slot → HaveSameLinks more less
flip_links less more place slot filled at near = elim (cases_eq at place) [
  | inl same ↦ (
    subst (λ p. slice_index (unit_at less p) 1 ≡ slice_index (unit_at more p) 1) (sym same) (sym filled.track),
    subst (λ p. slice_index (unit_at less p) 2 ≡ slice_index (unit_at more p) 2) (sym same) (sym filled.sector),
  )
  | inr differ ↦ (ap (λ u. slice_index u 1) (sym (filled.elsewhere at differ)), ap (λ u. slice_index u 2) (sym (filled.elsewhere at differ)))
]

module _ (old : List ℕ) (slot : ℕ) (below : slot < 7) (whole : length old ≡ 256) where
  abbrev with_track : List ℕ
  with_track = slice_set old (slot_offset slot + 0x20) (slice_index old (slot_offset slot))

  length-erased : length (erased slot old) ≡ length old
  length-erased = length-set with_track (slot_offset slot) 0xff ∙ length-set old (slot_offset slot + 0x20) (slice_index old (slot_offset slot))

  outside_erased : IsSameOutside old (erased slot old) (slot_offset slot) (slot_offset slot + 35)
  outside_erased byte apart =
      get_or-set_other with_track (slot_offset slot) byte 0xff 0 (λ same. elim apart [ inl low ↦ omega (arith, low, same) | inr high ↦ omega (arith, high, same) ])
      ∙ get_or-set_other old (slot_offset slot + 0x20) byte (slice_index old (slot_offset slot)) 0
      (λ same. elim apart [ inl low ↦ omega (arith, low, same) | inr high ↦ omega (arith, high, same) ])

  unused_erased : (place : ℕ) → is_in_use (entry_at place (erased slot old) slot) ≡ false
  unused_erased place =
      let first : slice_index (take 35 (drop (slot_offset slot) (erased slot old))) 0 ≡ 0xff =
      get_or-take 35 (drop (slot_offset slot) (erased slot old)) 0 0 (omega arith) ∙ get_or-drop (slot_offset slot) (erased slot old) 0 0
      ∙ ap (slice_index (erased slot old)) (omega arith)
      ∙ get_or-set_same with_track (slot_offset slot) 0xff 0 (omega (arith, below, whole, length-set old (slot_offset slot + 0x20) (slice_index old (slot_offset slot)))) in
      ap (λ track. not (track == 0) && not (track == 0xff)) first

module _ (data_disk : Bool) (reserved : List Bool) (store : List (List ℕ)) (directory : Directory) (sectors : List ℕ)
    (described : DescribesDos data_disk reserved store directory) (catalog : IsCatalog store sectors) where
  -- an entry in a slot is erased
  module _ (place slot : ℕ) (used : IsUsedSlot store sectors place slot) (whole : length (unit_at store place) ≡ 256) where
    abbrev after : List (List ℕ)
    after = slice_set store place (erased slot (unit_at store place))

    abbrev number : ℕ
    number = number_of_slot after sectors place slot

    abbrev few : Directory
    few = dos_directory data_disk reserved (unit_at after 272) (entries_in after sectors)

    filled : IsFilled after store place slot
    filled = empties store place slot (erased slot (unit_at store place)) (below_last data_disk reserved store directory sectors described catalog place used.of_catalog) used.below
        (length-erased (unit_at store place) slot used.below whole) (outside_erased (unit_at store place) slot used.below whole) used.in_use
        (unused_erased (unit_at store place) slot used.below whole place)

    catalog_after : IsCatalog after sectors
    catalog_after = catalog_same store after (flip_links after store place slot filled) sectors catalog

    vtoc_same : unit_at after 272 ≡ unit_at store 272
    vtoc_same = sym (filled.elsewhere 272 (λ same. omega (arith, same, (on_catalog data_disk reserved store directory sectors described catalog place used.of_catalog).0)))

    few_described : DescribesDos data_disk reserved after few
    few_described = record {
      size = length-set store place (erased slot (unit_at store place)) ∙ described.size;
      geometry = subst HasGeometry (sym vtoc_same) described.geometry;
      sectors = sectors;
      catalog = catalog_after;
      says = refl;
    }

    was : directory ≡ inserted few number (dos_entry number (entry_at place (unit_at store place) slot))
    was = says_of data_disk reserved store directory sectors described catalog
        ∙ directory_more after store place slot filled sectors catalog_after used.of_catalog data_disk reserved

    number_in_few : number ≤ entries few
    number_in_few = omega (arith, number_within after sectors place slot used.of_catalog, length-numbered 0 (entries_in after sectors))

    entry_was : entry_of directory number ≡ dos_entry number (entry_at place (unit_at store place) slot)
    entry_was = ap (λ (d : Directory). entry_of d number) was ∙ insert_here number (dos_entry number (entry_at place (unit_at store place) slot)) (map (shifted_entry number) few.listed) no_entry
        (omega (arith, number_in_few, length-map few.listed (shifted_entry number)))

    same_rest : HasSameRest few store after
    same_rest =
        let rest = sector_written data_disk reserved store directory sectors described catalog place used.of_catalog (erased slot (unit_at store place)) in
        record {
          size = rest.size;
          units = λ other outside. rest.units other (ap (λ (d : Directory). is_system d other) was ∙ outside);
        }

    number_inside : number < entries directory
    number_inside = omega (arith, number_in_few, ap entries was, length-insert_at number (dos_entry number (entry_at place (unit_at store place) slot)) (map (shifted_entry number) few.listed), length-map few.listed (shifted_entry number))

  -- the entry of a file is erased
  module _ (file : ℕ) (within : file < entries directory) where
    abbrev all : List Entry
    all = entries_in store sectors

    abbrev entry : Entry
    entry = get_or all file no_list

    inside_all : (k : ℕ) → k < entries directory → k < length all
    inside_all k low = omega (arith, low, ap entries (says_of data_disk reserved store directory sectors described catalog), length-numbered 0 all)

    listed_is : (k : ℕ) → k < entries directory → entry_of directory k ≡ dos_entry k (get_or all k no_list)
    listed_is k low = ap (λ (d : Directory). entry_of d k) (says_of data_disk reserved store directory sectors described catalog)
        ∙ entry_of-dos data_disk reserved (unit_at store 272) all k no_list (inside_all k low)

    used_at : IsUsedSlot store sectors entry.place entry.slot
    used_at = record {
      of_catalog = each_entry (λ (e : Entry). Contains sectors e.place) store sectors (λ k d low slot below. Contains-get_or sectors k d low) file no_list (inside_all file within);
      below = (on_track store sectors catalog).slots file no_list (inside_all file within);
      in_use = subst (λ e. is_in_use e ≡ true) (each_stored store sectors file no_list (inside_all file within)) (each_in_use store sectors file no_list (inside_all file within));
    }

    -- no other entry stands in its slot
    one_entry : (k : ℕ) → k < entries directory → (get_or all k no_list).place ≡ entry.place → (get_or all k no_list).slot ≡ entry.slot → k ≡ file
    one_entry k low place slot = elim (cases_eq k file) [
      | inl same ↦ same
      | inr differ ↦ absurd (elim (cases_lt k file) [
        | inl less ↦ entries_apart store sectors catalog.once k file no_list less (inside_all file within) place slot
        | inr more ↦ entries_apart store sectors catalog.once file k no_list (omega (arith, more, differ)) (inside_all k low) (sym place) (sym slot)
      ])
    ]

    file_erased_at : length (unit_at store entry.place) ≡ 256
        → HasErased data_disk reserved directory file store (slice_set store entry.place (erased entry.slot (unit_at store entry.place)))
    file_erased_at whole =
        let number = number entry.place entry.slot used_at whole in
        let few = few entry.place entry.slot used_at whole in
        let was = was entry.place entry.slot used_at whole in
        let entry_was = entry_was entry.place entry.slot used_at whole in
        let low : number < entries directory = number_inside entry.place entry.slot used_at whole in
        let at = sym (listed_is number low) ∙ entry_was in
        let same : number ≡ file = one_entry number low (ap (λ (e : Listed). e.place) at) (ap (λ (e : Listed). e.slot) at) in
        record {
          few = few;
          places = refl;
          described = few_described entry.place entry.slot used_at whole;
          within = subst (λ n. n ≤ entries few) same (number_in_few entry.place entry.slot used_at whole);
          is = subst (λ n. directory ≡ inserted few n (entry_of directory n)) same (was ∙ ap (inserted few number) (sym entry_was));
          rest = same_rest entry.place entry.slot used_at whole;
        }

    pub file_erased : length (sector_of_entry directory store file) ≡ 256 → HasErased data_disk reserved directory file store (entry_erased directory store file)
    file_erased whole =
        let at = listed_is file within in
        subst (λ (e : Listed). HasErased data_disk reserved directory file store (slice_set store e.place (erased e.slot (unit_at store e.place)))) (sym at)
        (file_erased_at (subst (λ (e : Listed). length (unit_at store e.place) ≡ 256) at whole))
