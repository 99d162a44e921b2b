-- What is true of the directory of a DOS 3.3 volume, whatever device told it.
use Rattle.std.specs.Prelude.{◌≡◌, ◌≢◌, ◌↔◌, ◌<◌, ◌≤◌, ◌/◌, length, ℕ, zero, suc, ◌+◌, nat_lt, ◌||◌, Bool, true, false, List, [], ◌∷◌, map, not, AllPairs, Contains}
use Rattle.std.specs.List.{range_with_len}
use Rattle.std.proofs.Common.{refl, sym, ◌∙◌, ap, arith, subst, get_or, add-zero}
use Rattle.std.proofs.lemmas.Bool.Decides.{nat_tests}
use Rattle.std.proofs.lemmas.List.Elements.{Contains-get_or}
use Rattle.std.proofs.lemmas.List.Kept.{AllPairs-filter}
use Rattle.std.proofs.lemmas.List.Filters.{length-filter_both}
use Rattle.std.proofs.lemmas.List.FromFn.{length-map-range_with_len, get_or-map-range_with_len}
use Rattle.a2_device.specs.declared.part.Part.{Part}
use Rattle.a2_device.specs.declared.part.PartKind.TheVariants.{List as AList}
use Rattle.dos_vtoc.specs.Vtoc.{order_of}
use Rattle.dos_catalog.specs.declared.entry.Entry.{Entry}
use Rattle.dos_catalog.specs.Found.{AreOnTrack}
use Rattle.dos_tslist.specs.Reach.{entry_pointer}
use Rattle.vol_format.specs.declared.link.Link.TheVariants.{Null, To}
use Rattle.vol_format.specs.Directory.{Listed, no_entry, entry_of, root_of, is_system}
use Rattle.vol_format.specs.Laws.{IsDirectory}
use Rattle.vol_format.proofs.Filters.{in_filter, out_of_filter}
use Rattle.dos_format.specs.Dos.{dos_entry, numbered, is_dos_system, dos_system, first_available, dos_available, dos_directory, dos_meaning, dos_depth}
use Rattle.dos_format.specs.lemmas.DosLaws.{IsNamed, link_to-To}

pub length-numbered : (from : ℕ) (all : List Entry) → length (numbered from all) ≡ length all
length-numbered from [] = refl
length-numbered from (entry ∷ all) = ap suc_of (length-numbered (from + 1) all)
  where
    suc_of : ℕ → ℕ
    suc_of n = suc n

pub get_or-numbered : (all : List Entry) (from k : ℕ) (d : Listed) (e : Entry) → k < length all → get_or (numbered from all) k d ≡ dos_entry (from + k) (get_or all k e)
get_or-numbered [] from k d e within = absurd (omega (arith, within))
get_or-numbered (entry ∷ all) from zero d e within = ap (λ n. dos_entry n entry) (sym (add-zero from))
get_or-numbered (entry ∷ all) from (suc k) d e within =
    get_or-numbered all (from + 1) k d e (omega (arith, within)) ∙ ap (λ n. dos_entry n (get_or all k e)) (omega arith)

-- an entry by its number
pub entry_of-dos : (data_disk : Bool) (reserved : List Bool) (vtoc : List ℕ) (all : List Entry) (file : ℕ) (e : Entry) → file < length all
    → entry_of (dos_directory data_disk reserved vtoc all) file ≡ dos_entry file (get_or all file e)
entry_of-dos data_disk reserved vtoc all file e within =
    get_or-numbered all 0 file no_entry e within ∙ ap (λ n. dos_entry n (get_or all file e)) (omega arith)

pub no_list : Entry
no_list = record { place = 0; slot = 0; bytes = [] }

-- what an entry names is list 0 of its own file
pub root_of-dos : (data_disk : Bool) (reserved : List Bool) (vtoc : List ℕ) (all : List Entry) (file : ℕ) (part : Part)
    → root_of (dos_directory data_disk reserved vtoc all) file ≡ To part → IsNamed file AList 0 part
root_of-dos data_disk reserved vtoc all file part is = by_test (nat_lt file (length all)) refl
  where
    past : (xs : List Listed) (k : ℕ) → length xs ≤ k → get_or xs k no_entry ≡ no_entry
    past [] k h = refl
    past (x ∷ xs) zero h = absurd (omega (arith, h))
    past (x ∷ xs) (suc k) h = past xs k (omega (arith, h))

    by_test : (below : Bool) → nat_lt file (length all) ≡ below → IsNamed file AList 0 part
    by_test true at =
        let within : file < length all = grind (arith, nat_tests) in
        link_to-To file AList 0 (entry_pointer (get_or all file no_list)) part
        (sym (ap (λ (entry : Listed). entry.root) (entry_of-dos data_disk reserved vtoc all file no_list within)) ∙ is)
    by_test false at =
        let beyond : length all ≤ file = grind (arith, nat_tests) in
        absurd (null_not_to part (sym (ap (λ (entry : Listed). entry.root) (past (numbered 0 all) file (omega (arith, length-numbered 0 all, beyond)))) ∙ is))
      where
        null_not_to : (p : Part) → Null ≡ To p → ⊥
        null_not_to p e = cc

module _ (data_disk : Bool) (reserved : List Bool) where
  -- the order of the places has each once
  order_at : (k : ℕ) (d : ℕ) → k < 560 → get_or (map order_of (range_with_len 0 560)) k d ≡ order_of k
  order_at k d within = get_or-map-range_with_len order_of 0 560 k k d within (omega arith)

  order_below : (place : ℕ) → place < 560 → order_of place < 560
  order_below place within = omega (arith, within)

  order_twice : (place : ℕ) → order_of (order_of place) ≡ place
  order_twice place = omega arith

  in_order : (place : ℕ) → place < 560 → Contains (map order_of (range_with_len 0 560)) place
  in_order place within = (
    order_of place,
    omega (arith, order_below place within, length-map-range_with_len order_of 0 560),
    order_at (order_of place) place (order_below place within) ∙ order_twice place,
  )

  from_order : (place : ℕ) → Contains (map order_of (range_with_len 0 560)) place → place < 560
  from_order place has =
      let within : has.0 < 560 = omega (arith, has.1, length-map-range_with_len order_of 0 560) in
      omega (arith, order_at has.0 place within, has.2, order_below has.0 within)

  order_once : AllPairs (λ place later. place ≢ later) (map order_of (range_with_len 0 560))
  order_once i j d less within same =
      let inside : j < 560 = omega (arith, within, length-map-range_with_len order_of 0 560) in
      omega (arith, order_at i d (omega arith), order_at j d inside, same, less)

  not_false : (b : Bool) → not b ≡ true → b ≡ false
  not_false false is = refl
  not_false true is = absurd (cc)

  not_true : (b : Bool) → b ≡ false → not b ≡ true
  not_true false is = refl
  not_true true is = absurd (cc)

  pub system_at : (vtoc : List ℕ) (all : List Entry) (place : ℕ) → place < 560
      → is_system (dos_directory data_disk reserved vtoc all) place ≡ is_dos_system data_disk reserved place
  unfolding dos_system
  system_at vtoc all place within = get_or-map-range_with_len (is_dos_system data_disk reserved) 0 560 place place true within (omega arith)

  pub available_of : (place : ℕ) → Contains (dos_available data_disk reserved) place ↔ ((place < 560) × (is_dos_system data_disk reserved place ≡ false))
  unfolding first_available
  available_of place = (
    λ has.
        let passed = out_of_filter (λ p. not (is_dos_system data_disk reserved p)) (map order_of (range_with_len 0 560)) place has in
        (from_order place passed.0, not_false (is_dos_system data_disk reserved place) passed.1),
    λ is. in_filter (λ p. not (is_dos_system data_disk reserved p)) (map order_of (range_with_len 0 560)) place (in_order place is.0)
        (not_true (is_dos_system data_disk reserved place) is.1),
  )

  available_once : AllPairs (λ place later. place ≢ later) (dos_available data_disk reserved)
  unfolding first_available
  available_once = AllPairs-filter (λ place later. place ≢ later) (λ p. not (is_dos_system data_disk reserved p)) (map order_of (range_with_len 0 560)) order_once

  pub few_available : length (dos_available data_disk reserved) ≤ 560
  unfolding first_available
  few_available =
      omega (
        arith,
        length-filter_both (λ p. not (is_dos_system data_disk reserved p)) (λ p. not (not (is_dos_system data_disk reserved p))) (λ p. refl) (map order_of (range_with_len 0 560)),
        length-map-range_with_len order_of 0 560,
      )

  first_false : (a b c d : Bool) → (((a || b) || c) || d) ≡ false → a ≡ false
  first_false false b c d is = refl
  first_false true b c d is = absurd (cc)

  pub can_name : (place : ℕ) → place < 560 → is_dos_system data_disk reserved place ≡ false → (16 ≤ place) × (place < 560)
  can_name place within outside =
      let first = first_false (nat_lt place 16) _ _ _ outside in
      (grind (arith, nat_tests), within)

  pub dos_is_directory : (vtoc : List ℕ) (all : List Entry) → AreOnTrack all → IsDirectory (dos_meaning data_disk reserved) (dos_directory data_disk reserved vtoc all)
  dos_is_directory vtoc all on_track =
      let inside : (file : ℕ) → file < length (numbered 0 all) → file < length all = λ file within. omega (arith, within, length-numbered 0 all) in
      record {
        root_place = λ file part is. (root_of-dos data_disk reserved vtoc all file part is).in_range;
        root_file = λ file part is. (root_of-dos data_disk reserved vtoc all file part is).same_file;
        root_depth = λ file part is.
            let named = root_of-dos data_disk reserved vtoc all file part is in
            ap (λ k. dos_depth k part.number) named.same_kind ∙ named.same_number;
        entry_below = λ file within.
            let at = entry_of-dos data_disk reserved vtoc all file no_list (inside file within) in
            omega (arith, ap (λ (entry : Listed). entry.place) at, (on_track.places file no_list (inside file within)).1);
        entry_slot = λ file within.
            let at = entry_of-dos data_disk reserved vtoc all file no_list (inside file within) in
            omega (arith, ap (λ (entry : Listed). entry.slot) at, on_track.slots file no_list (inside file within));
        few_entries = omega (arith, length-numbered 0 all, on_track.few);
        available_of = λ place. (
          λ has. let is = (available_of place).0 has in (is.0, system_at vtoc all place is.0 ∙ is.1),
          λ is. (available_of place).1 (is.0, sym (system_at vtoc all place is.0) ∙ is.1),
        );
        available_once = available_once;
        available_named = λ place has. let is = (available_of place).0 has in can_name place is.0 is.1;
        few_available = omega (arith, few_available);
        available_by_unit = λ i j d less within. omega (arith, first_unit i d (omega (arith, less, within)), first_unit j d within);
        map_counted = λ place within. omega (arith, within);
        map_below = λ place within. map_here place within;
      }
    where
      first_unit : (k d : ℕ) → k < length (dos_available data_disk reserved) → get_or (dos_available data_disk reserved) k d / 560 ≡ 0
      first_unit k d within =
          let is = (available_of (get_or (dos_available data_disk reserved) k d)).0 (Contains-get_or (dos_available data_disk reserved) k d within) in
          omega (arith, is.0)

      map_here : (place : ℕ) → place < 560 → get_or (272 ∷ []) (place / 560) 0 < 560
      map_here place within =
          let first : place / 560 ≡ 0 = omega arith in
          subst (λ n. get_or (272 ∷ []) n 0 < 560) (sym first) (omega arith)
