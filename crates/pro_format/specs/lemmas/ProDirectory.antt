-- What is true of the directory of a ProDOS volume, whatever device told it.
use Rattle.std.specs.Prelude.{◌≡◌, ◌↔◌, ◌<◌, ◌≤◌, ◌/◌, ◌+◌, length, ℕ, Bool, true, false, List, not, AllPairs, Contains, slice_index, slice_index_or}
use Rattle.std.specs.List.{range_with_len}
use Rattle.std.proofs.Common.{refl, sym, ◌∙◌, ap, arith, subst, inl, inr}
use Rattle.std.proofs.lemmas.Bool.{cases_lt}
use Rattle.std.proofs.lemmas.List.{get_or_past}
use Rattle.std.proofs.lemmas.List.Kept.{AllPairs-filter}
use Rattle.std.proofs.lemmas.List.Filters.{length-filter_both}
use Rattle.std.proofs.lemmas.List.FromFn.{length-range_with_len, get_or-range_with_len, length-map-range_with_len, get_or-map-range_with_len}
use Rattle.a2_device.specs.declared.part.Part.{Part}
use Rattle.pro_dir.specs.declared.entry.Entry.{Entry}
use Rattle.pro_dir.specs.Entry.{key_of, storage_of}
use Rattle.pro_dir.specs.Volume.{Directory as Tree, map_blocks, map_first, total_blocks}
use Rattle.pro_tree.specs.Reach.{pro_root}
use Rattle.pro_tree.specs.lemmas.Roots.{pro_root_place, pro_root_file, pro_root_depth}
use Rattle.vol_format.specs.declared.link.Link.TheVariants.{Null, To}
use Rattle.vol_format.specs.Directory.{Listed, no_entry}
use Rattle.vol_format.specs.Laws.{IsDirectory}
use Rattle.vol_format.proofs.Filters.{in_filter, out_of_filter}
use Rattle.pro_format.specs.Pro.{first_available, available_in, no_slot, entry_number, pro_listed, directory_with, pro_meaning}
use Rattle.pro_format.specs.Sound.{IsSound}

-- the entries, by their numbers
module _ (places : ℕ) (all : List Entry) where
  pub length-listed : length (pro_listed places all) ≡ length all
  unfolding pro_listed
  length-listed = length-map-range_with_len (entry_number places all) 0 (length all)

  pub listed_at : (file : ℕ) → file < length all → slice_index_or (pro_listed places all) file no_entry ≡ entry_number places all file
  unfolding pro_listed
  listed_at file within = get_or-map-range_with_len (entry_number places all) 0 (length all) file file no_entry within (omega arith)

  -- what an entry points to is told by its storage type and its key pointer
  pub record IsRootAt (file : ℕ) (part : Part) : Type 0 where
    pub inside : file < length all
    pub names : pro_root places file (storage_of (slice_index_or all file no_slot).bytes) (key_of (slice_index_or all file no_slot)) ≡ To part

  pub listed_root : (file : ℕ) (part : Part) → (slice_index_or (pro_listed places all) file no_entry).root ≡ To part → IsRootAt file part
  listed_root file part is = elim (cases_lt file (length all)) [
    | inl inside ↦ record { inside = inside; names = sym (ap (λ (entry : Listed). entry.root) (listed_at file inside)) ∙ is }
    | inr past ↦ absurd (null_not_to part (sym (ap (λ (entry : Listed). entry.root)
        (get_or_past (pro_listed places all) file no_entry (omega (arith, length-listed, past)))) ∙ is))
  ]
    where
      null_not_to : (p : Part) → Null ≡ To p → ⊥
      null_not_to p e = cc

-- what is available of a table
module _ (system : List Bool) where
  not_false : (b : Bool) → not b ≡ true → b ≡ false
  not_false false is = refl
  not_false true is = absurd (cc)

  not_true : (b : Bool) → b ≡ false → not b ≡ true
  not_true false is = refl
  not_true true is = absurd (cc)

  in_range : (n place : ℕ) → place < n → Contains (range_with_len 0 n) place
  in_range n place within = (place, omega (arith, within, length-range_with_len 0 n), omega (arith, get_or-range_with_len 0 n place place within))

  from_range : (n place : ℕ) → Contains (range_with_len 0 n) place → place < n
  from_range n place has =
      let within : has.0 < n = omega (arith, has.1, length-range_with_len 0 n) in
      omega (arith, within, has.2, get_or-range_with_len 0 n has.0 place within)

  pub available_of : (place : ℕ) → Contains (available_in system) place ↔ ((place < length system) × (slice_index_or system place true ≡ false))
  unfolding first_available
  available_of place = (
    λ has.
        let passed = out_of_filter (λ p. not (slice_index_or system p true)) (range_with_len 0 (length system)) place has in
        (from_range (length system) place passed.0, not_false (slice_index_or system place true) passed.1),
    λ is. in_filter (λ p. not (slice_index_or system p true)) (range_with_len 0 (length system)) place (in_range (length system) place is.0)
        (not_true (slice_index_or system place true) is.1),
  )

  pub available_rising : AllPairs (λ place later. place < later) (available_in system)
  unfolding first_available
  available_rising = AllPairs-filter (λ place later. place < later) (λ p. not (slice_index_or system p true)) (range_with_len 0 (length system))
      (λ i j d less within.
      let inside : j < length system = omega (arith, within, length-range_with_len 0 (length system)) in
      omega (arith, less, get_or-range_with_len 0 (length system) i d (omega (arith, less, inside)), get_or-range_with_len 0 (length system) j d inside))

  pub few_available : length (available_in system) ≤ length system
  unfolding first_available
  few_available = omega (
    arith,
    length-filter_both (λ p. not (slice_index_or system p true)) (λ p. not (not (slice_index_or system p true))) (λ p. refl) (range_with_len 0 (length system)),
    length-range_with_len 0 (length system),
  )

-- the blocks of the map, one for each 4,096 places
pub map_place_is : (first total place : ℕ) → place < total → slice_index (range_with_len first (map_blocks total)) (place / 4096) ≡ first + place / 4096
map_place_is first total place within = get_or-range_with_len first (map_blocks total) (place / 4096) 0 (omega (arith, within))

pub pro_is_directory : (reserved : List Bool) (tree : Tree) (system : List Bool) (units : List (List ℕ)) → IsSound tree system
    → IsDirectory (pro_meaning reserved) (directory_with system tree units)
pro_is_directory reserved tree system units sound =
    let inside : (file : ℕ) → file < length (pro_listed (total_blocks tree.header) tree.entries) → file < length tree.entries =
    λ file within. omega (arith, within, length-listed (total_blocks tree.header) tree.entries) in
    record {
      root_place = λ file part is. pro_root_place (total_blocks tree.header) file (storage_of (slice_index_or tree.entries file no_slot).bytes) (key_of (slice_index_or tree.entries file no_slot)) part
          (listed_root (total_blocks tree.header) tree.entries file part is).names;
      root_file = λ file part is. pro_root_file (total_blocks tree.header) file (storage_of (slice_index_or tree.entries file no_slot).bytes) (key_of (slice_index_or tree.entries file no_slot)) part
          (listed_root (total_blocks tree.header) tree.entries file part is).names;
      root_depth = λ file part is. pro_root_depth (total_blocks tree.header) file (storage_of (slice_index_or tree.entries file no_slot).bytes) (key_of (slice_index_or tree.entries file no_slot)) part
          (listed_root (total_blocks tree.header) tree.entries file part is).names;
      entry_below = λ file within.
          let at = ap (λ (entry : Listed). entry.place) (listed_at (total_blocks tree.header) tree.entries file (inside file within)) in
          omega (arith, at, sound.blocks file no_slot (inside file within));
      entry_slot = λ file within.
          let at = ap (λ (entry : Listed). entry.slot) (listed_at (total_blocks tree.header) tree.entries file (inside file within)) in
          omega (arith, at, sound.slots file no_slot (inside file within));
      few_entries = omega (arith, length-listed (total_blocks tree.header) tree.entries, sound.few);
      available_of = λ place. (
        λ has. let is = (available_of system place).0 has in (omega (arith, is.0, sound.size), is.1),
        λ is. (available_of system place).1 (omega (arith, is.0, sound.size), is.1),
      );
      available_once = λ i j d less within same. omega (arith, available_rising system i j d less within, same);
      available_named = λ place has.
          let is = (available_of system place).0 has in
          ((not_first place is.1, omega (arith, is.0, sound.size)), omega (arith, is.0, sound.size, sound.places));
      few_available = omega (arith, few_available system, sound.size, sound.places);
      available_by_unit = λ i j d less within. omega (arith, available_rising system i j d less within);
      map_counted = λ place within. omega (arith, within, length-range_with_len (map_first tree.header) (map_blocks (total_blocks tree.header)));
      map_below = λ place within.
          let at = map_place_is (map_first tree.header) (total_blocks tree.header) place within in
          let below = sound.map (map_first tree.header + place / 4096) (omega arith) (omega (arith, within)) in
          omega (arith, at, below);
    }
  where
    not_first : (place : ℕ) → slice_index_or system place true ≡ false → 0 < place
    not_first place outside = elim (cases_lt 0 place) [
      | inl some ↦ some
      | inr none ↦
          let zero : place ≡ 0 = omega arith in
          let out : slice_index_or system 0 true ≡ false = subst (λ p. slice_index_or system p true ≡ false) zero outside in
          absurd (cc (out, sound.first))
    ]
