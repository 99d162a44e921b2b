-- What is true of one file of a volume, as if no other were there.
use Rattle.std.specs.Prelude.{◌≡◌, ◌≢◌, ◌<◌, ◌≤◌, ◌/◌, ◌==◌, nat_lt, ℕ, Bool, true, false, if◌then◌else◌, List, [], ◌∷◌, Some, None, slice_get, length, AllPairs, Contains}
use Rattle.std.specs.List.{range_with_len}
use Rattle.std.proofs.Common.{refl, sym, ◌∙◌, ap, subst, arith, get_or, zero, suc}
use Rattle.std.proofs.lemmas.Bool.Decides.{nat_tests}
use Rattle.std.proofs.lemmas.List.FromFn.{get_or-range_with_len, get_or-map-range_with_len, length-map-range_with_len, length-range_with_len}
use Rattle.std.proofs.lemmas.List.{get_or-replicate}
use Rattle.std.proofs.lemmas.Nat.{le-div}
use Rattle.std.proofs.Math.Nat.{div-mul-le_self}
use Rattle.std.proofs.lemmas.Option.{slice_get-get_or, slice_get_past}
use Rattle.a2_device.specs.declared.part.Part.{Part}
use Rattle.vol_format.specs.declared.link.Link.{Link}
use Rattle.vol_format.specs.declared.link.Link.TheVariants.{Null, To}
use Rattle.vol_format.specs.Directory.{Directory, Listed, no_entry, entries, entry_of, root_of, is_system}
use Rattle.vol_format.specs.Meaning.{Meaning}
use Rattle.vol_format.specs.Laws.{IsDirectory}
use Rattle.file_cmds.specs.KnownVolume.{of_known}
use Rattle.file_cmds.specs.OneFile.{entry_alone, entries_alone, file_alone}

module _ (directory : Directory) (file : ℕ) where
  pub entries-alone : entries (file_alone directory file) ≡ entries directory
  unfolding entries_alone
  entries-alone = length-map-range_with_len (entry_alone directory file) 0 (entries directory)

  pub entry_of-alone : (entry : ℕ) → entry < entries directory → entry_of (file_alone directory file) entry ≡ entry_alone directory file entry
  unfolding entries_alone
  entry_of-alone entry within = get_or-map-range_with_len (entry_alone directory file) 0 (entries directory) entry entry no_entry within (omega arith)

  past : (xs : List Listed) (k : ℕ) → length xs ≤ k → get_or xs k no_entry ≡ no_entry
  past [] k h = refl
  past (x ∷ xs) zero h = absurd (omega (arith, h))
  past (x ∷ xs) (suc k) h = past xs k (omega (arith, h))

  if_same : (entry : ℕ) → entry ≡ file → entry_alone directory file entry ≡ entry_of directory entry
  if_same entry same = by_test (entry == file) refl
    where
      by_test : (b : Bool) → (entry == file) ≡ b → (if b then entry_of directory entry else record (entry_of directory entry) { root = Null }) ≡ entry_of directory entry
      by_test true is = refl
      by_test false is = absurd (grind (arith, nat_tests))

  if_other : (entry : ℕ) → entry ≢ file → entry_alone directory file entry ≡ record (entry_of directory entry) { root = Null }
  if_other entry other = by_test (entry == file) refl
    where
      by_test : (b : Bool) → (entry == file) ≡ b
          → (if b then entry_of directory entry else record (entry_of directory entry) { root = Null }) ≡ record (entry_of directory entry) { root = Null }
      by_test true is = absurd (grind (arith, nat_tests))
      by_test false is = refl

  pub root_of-same : file < entries directory → root_of (file_alone directory file) file ≡ root_of directory file
  root_of-same within = ap (λ (entry : Listed). entry.root) (entry_of-alone file within ∙ if_same file refl)

  pub root_of-other : (entry : ℕ) → entry ≢ file → root_of (file_alone directory file) entry ≡ Null
  root_of-other entry other = by_test (nat_lt entry (entries directory)) refl
    where
      by_test : (below : Bool) → nat_lt entry (entries directory) ≡ below → root_of (file_alone directory file) entry ≡ Null
      by_test true is = ap (λ (one : Listed). one.root) (entry_of-alone entry (grind (arith, nat_tests)) ∙ if_other entry other)
      by_test false is =
          let beyond : entries directory ≤ entry = grind (arith, nat_tests) in
          ap (λ (one : Listed). one.root) (past (entries_alone directory file) entry (omega (arith, entries-alone, beyond)))

  pub root-alone : (entry : ℕ) → entry ≡ file → entry < entries directory → root_of directory entry ≡ root_of (file_alone directory file) entry
  root-alone entry same within = sym (ap (λ (one : Listed). one.root) (entry_of-alone entry within ∙ if_same entry same))

  -- only the file's own entry points to anything
  pub root_of-link : (entry : ℕ) (link : Link) → (Null ≡ link → ⊥) → root_of (file_alone directory file) entry ≡ link → (entry ≡ file) × (root_of directory file ≡ link)
  root_of-link entry link null is = by_tests (entry == file) (nat_lt entry (entries directory)) refl refl
    where
      by_tests : (same below : Bool) → (entry == file) ≡ same → nat_lt entry (entries directory) ≡ below → (entry ≡ file) × (root_of directory file ≡ link)
      by_tests true true at within_is =
          let same : entry ≡ file = grind (arith, nat_tests) in
          let within : entry < entries directory = grind (arith, nat_tests) in (
            same,
            ap (root_of directory) (sym same) ∙ sym (ap (λ (one : Listed). one.root) (entry_of-alone entry within ∙ if_same entry same)) ∙ is,
          )
      by_tests true false at beyond_is =
          let beyond : entries directory ≤ entry = grind (arith, nat_tests) in
          absurd (null (sym (ap (λ (one : Listed). one.root) (past (entries_alone directory file) entry (omega (arith, entries-alone, beyond)))) ∙ is))
      by_tests false below at below_is = absurd (null (sym (root_of-other entry (grind (arith, nat_tests))) ∙ is))

  root_of-To : (entry : ℕ) (part : Part) → root_of (file_alone directory file) entry ≡ To part → (entry ≡ file) × (root_of directory file ≡ To part)
  root_of-To entry part is = root_of-link entry (To part) null is
    where
      null : Null ≡ To part → ⊥
      null e = cc

  same_place : (entry : ℕ) → (entry_alone directory file entry).place ≡ (entry_of directory entry).place
  same_place entry = by_test (entry == file)
    where
      by_test : (b : Bool) → (if b then entry_of directory entry else record (entry_of directory entry) { root = Null }).place ≡ (entry_of directory entry).place
      by_test true = refl
      by_test false = refl

  same_slot : (entry : ℕ) → (entry_alone directory file entry).slot ≡ (entry_of directory entry).slot
  same_slot entry = by_test (entry == file)
    where
      by_test : (b : Bool) → (if b then entry_of directory entry else record (entry_of directory entry) { root = Null }).slot ≡ (entry_of directory entry).slot
      by_test true = refl
      by_test false = refl

  pub place-alone : (entry : ℕ) → entry < entries directory → (entry_of (file_alone directory file) entry).place ≡ (entry_of directory entry).place
  place-alone entry within = ap (λ (one : Listed). one.place) (entry_of-alone entry within) ∙ same_place entry

  pub slot-alone : (entry : ℕ) → entry < entries directory → (entry_of (file_alone directory file) entry).slot ≡ (entry_of directory entry).slot
  slot-alone entry within = ap (λ (one : Listed). one.slot) (entry_of-alone entry within) ∙ same_slot entry

  pub outside_system : (place : ℕ) → place < directory.places → is_system (file_alone directory file) place ≡ false
  outside_system place within = get_or-replicate directory.places place false true within

  in_range : (place : ℕ) → place < directory.places → Contains (range_with_len 0 directory.places) place
  in_range place within = (place, omega (arith, within, length-range_with_len 0 directory.places), get_or-range_with_len 0 directory.places place place within ∙ omega arith)

  from_range : (place : ℕ) → Contains (range_with_len 0 directory.places) place → place < directory.places
  from_range place has =
      let inside : has.0 < directory.places = omega (arith, has.1, length-range_with_len 0 directory.places) in
      omega (arith, inside, has.2, get_or-range_with_len 0 directory.places has.0 place inside)

  pub available-alone : (number : ℕ) → number < directory.places → slice_get (range_with_len 0 directory.places) number ≡ Some number
  available-alone number within =
      slice_get-get_or (range_with_len 0 directory.places) number 0 (omega (arith, within, length-range_with_len 0 directory.places))
      ∙ ap Some (get_or-range_with_len 0 directory.places number 0 within ∙ omega arith)

  pub available-past : (number : ℕ) → directory.places ≤ number → slice_get (range_with_len 0 directory.places) number ≡ None
  available-past number beyond = slice_get_past (range_with_len 0 directory.places) number (omega (arith, beyond, length-range_with_len 0 directory.places))

  once : AllPairs (λ place later. place ≢ later) (range_with_len 0 directory.places)
  once i j d less within same =
      let inside : j < directory.places = omega (arith, within, length-range_with_len 0 directory.places) in
      omega (arith, get_or-range_with_len 0 directory.places i d (omega arith), get_or-range_with_len 0 directory.places j d inside, same, less)

  by_unit : AllPairs (λ place later. place / directory.map_size ≤ later / directory.map_size) (range_with_len 0 directory.places)
  by_unit i j d less within =
      let inside : j < directory.places = omega (arith, within, length-range_with_len 0 directory.places) in
      let low = get_or-range_with_len 0 directory.places i d (omega arith) in
      let high = get_or-range_with_len 0 directory.places j d inside in
      div_mono (get_or (range_with_len 0 directory.places) i d) (get_or (range_with_len 0 directory.places) j d) directory.map_size (omega (arith, low, high, less))
    where
      div_mono : (a b size : ℕ) → a ≤ b → a / size ≤ b / size
      div_mono a b zero h = omega arith
      div_mono a b (suc size) h = le-div (a / suc size) b (suc size) (omega arith) (omega (arith, h, div-mul-le_self a (suc size)))

  pub alone_is_directory : (format : Meaning) → IsDirectory format directory → directory.places ≤ 65536
      → IsDirectory (of_known format (file_alone directory file)) (file_alone directory file)
  alone_is_directory format of few = record {
    root_place = λ entry part is. of.root_place file part (root_of-To entry part is).1;
    root_file = λ entry part is. of.root_file file part (root_of-To entry part is).1 ∙ sym (root_of-To entry part is).0;
    root_depth = λ entry part is. of.root_depth file part (root_of-To entry part is).1;
    entry_below = λ entry within.
        let inside : entry < entries directory = omega (arith, within, entries-alone) in
        omega (arith, place-alone entry inside, of.entry_below entry inside);
    entry_slot = λ entry within.
        let inside : entry < entries directory = omega (arith, within, entries-alone) in
        subst (format.HasSlot true) (sym (slot-alone entry inside)) (of.entry_slot entry inside);
    few_entries = omega (arith, entries-alone, of.few_entries);
    available_of = λ place. (
      λ has. (from_range place has, outside_system place (from_range place has)),
      λ is. in_range place is.0,
    );
    available_once = once;
    available_named = λ place has. tt;
    few_available = omega (arith, few, length-range_with_len 0 directory.places);
    available_by_unit = by_unit;
    map_counted = of.map_counted;
    map_below = of.map_below;
  }
