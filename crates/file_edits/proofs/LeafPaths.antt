-- The entries of a ProDOS volume, numbered and with their paths, with the entry of an empty directory more.
use Rattle.std.specs.Prelude.{◌≡◌, ◌≢◌, ◌<◌, ◌≤◌, ◌+◌, ◌==◌, ℕ, zero, suc, if◌then◌else◌, Bool, true, false, List, [], ◌∷◌, Some, length, find, map, option_map, slice_index_or, All}
use Rattle.std.proofs.Common.{refl, sym, ◌∙◌, ap, arith, get_or, inl, inr}
use Rattle.std.proofs.lemmas.Bool.{cases_eq, eqb-true}
use Rattle.std.proofs.lemmas.List.{ext_get_or, length-map, get_or-map}
use Rattle.std.proofs.lemmas.List.Elements.{All-head, All-tail}
use Rattle.pro_dir.specs.declared.entry.Entry.{Entry}
use Rattle.pro_dir.specs.Entry.{is_directory, key_of, name_of, storage_of}
use Rattle.pro_dir.specs.Paths.{name_below, path_at, path_below, paths_from, path_of}
use Rattle.pro_format.specs.Pro.{pro_entry, no_slot, entry_number, pro_listed}
use Rattle.pro_format.specs.lemmas.ProDirectory.{length-listed, listed_at}
use Rattle.vol_format.specs.declared.link.Link.{Link}
use Rattle.vol_format.specs.Directory.{Listed, no_entry}
use Rattle.vol_laws.specs.Inserted.{insert_at, shifted, shifted_entry}
use Rattle.vol_laws.proofs.Inserting.{length-insert_at, insert_here, insert_shifted, unshifted}
use Rattle.pro_format.proofs.FileFree.{root_shifted}

-- what is known of subdirectories, after an entry
abbrev with_entry : List (ℕ × List ℕ) → Entry → List (ℕ × List ℕ)
with_entry known entry = if is_directory entry then ((key_of entry, path_below known entry) ∷ known) else known

length-paths : (known : List (ℕ × List ℕ)) (all : List Entry) → length (paths_from known all) ≡ length all
length-paths known [] = refl
length-paths known (entry ∷ all) = ap (λ n. suc n) (length-paths (with_entry known entry) all)

module _ (leaf : ℕ) where
  -- an entry that does not stand in the directory with this key block
  abbrev pub IsElsewhere : Entry → Type 0
  IsElsewhere entry = entry.directory ≢ leaf

  -- the same is known of all directories but that one
  abbrev IsSameKnown : List (ℕ × List ℕ) → List (ℕ × List ℕ) → Type 0
  IsSameKnown known more = (key : ℕ) → key ≢ leaf → path_at more key ≡ path_at known key

  same_path : (known more : List (ℕ × List ℕ)) (entry : Entry) → IsSameKnown known more → IsElsewhere entry → path_below more entry ≡ path_below known entry
  same_path known more entry same elsewhere = ap (λ above. name_below above (name_of entry.bytes)) (same entry.directory elsewhere)

  known_both : (known more : List (ℕ × List ℕ)) (entry : Entry) → IsSameKnown known more → IsElsewhere entry → IsSameKnown (with_entry known entry) (with_entry more entry)
  known_both known more entry same elsewhere key differ = by_kind (is_directory entry)
    where
      by_key : (found : Bool)
          → option_map (λ (directory : ℕ × List ℕ). directory.1) (if found then Some (key_of entry, path_below more entry) else find (λ (directory : ℕ × List ℕ). directory.0 == key) more)
          ≡ option_map (λ (directory : ℕ × List ℕ). directory.1) (if found then Some (key_of entry, path_below known entry) else find (λ (directory : ℕ × List ℕ). directory.0 == key) known)
      by_key true = ap Some (same_path known more entry same elsewhere)
      by_key false = same key differ

      by_kind : (kind : Bool) → path_at (if kind then ((key_of entry, path_below more entry) ∷ more) else more) key
          ≡ path_at (if kind then ((key_of entry, path_below known entry) ∷ known) else known) key
      by_kind true = by_key (key_of entry == key)
      by_kind false = same key differ

  -- the entry of that directory itself
  known_leaf : (known : List (ℕ × List ℕ)) (entry : Entry) → key_of entry ≡ leaf → IsSameKnown known (with_entry known entry)
  known_leaf known entry is key differ = by_kind (is_directory entry)
    where
      by_key : (found : Bool) → (key_of entry == key) ≡ found
          → option_map (λ (directory : ℕ × List ℕ). directory.1) (if found then Some (key_of entry, path_below known entry) else find (λ (directory : ℕ × List ℕ). directory.0 == key) known)
          ≡ path_at known key
      by_key true found = absurd (differ (sym (eqb-true (key_of entry) key found) ∙ is))
      by_key false found = refl

      by_kind : (kind : Bool) → path_at (if kind then ((key_of entry, path_below known entry) ∷ known) else known) key ≡ path_at known key
      by_kind true = by_key (key_of entry == key) refl
      by_kind false = refl

  same_paths : (all : List Entry) (known more : List (ℕ × List ℕ)) → IsSameKnown known more → All IsElsewhere all → paths_from more all ≡ paths_from known all
  same_paths [] known more same elsewhere = refl
  same_paths (entry ∷ all) known more same elsewhere =
      let here = All-head IsElsewhere entry all elsewhere in
      ap (λ path. path ∷ paths_from (with_entry more entry) all) (same_path known more entry same here)
      ∙ ap (λ paths. path_below known entry ∷ paths)
      (same_paths all (with_entry known entry) (with_entry more entry) (known_both known more entry same here) (All-tail IsElsewhere entry all elsewhere))

  -- one path more
  paths_more : (i : ℕ) (x : Entry) (known : List (ℕ × List ℕ)) (all : List Entry) → key_of x ≡ leaf → All IsElsewhere all → i ≤ length all
      → (path : List ℕ) × (paths_from known (insert_at i x all) ≡ insert_at i path (paths_from known all))
  paths_more zero x known all is elsewhere within = (
    path_below known x,
    ap (λ paths. path_below known x ∷ paths) (same_paths all known (with_entry known x) (known_leaf known x is) elsewhere),
  )
  paths_more (suc i) x known [] is elsewhere within = absurd (omega (arith, within))
  paths_more (suc i) x known (entry ∷ all) is elsewhere within =
      let rest = paths_more i x (with_entry known entry) all is (All-tail IsElsewhere entry all elsewhere) (omega (arith, within)) in
      (rest.0, ap (λ paths. path_below known entry ∷ paths) rest.1)

entry_shifted : (at places file : ℕ) (path : List ℕ) (entry : Entry) → shifted_entry at (pro_entry places file path entry) ≡ pro_entry places (shifted at file) path entry
entry_shifted at places file path entry =
    ap (λ (link : Link). record (pro_entry places file path entry) { root = link }) (root_shifted at places file (storage_of entry.bytes) (key_of entry))

module _ (places i : ℕ) (x : Entry) (all : List Entry) (leaf : ℕ) (is : key_of x ≡ leaf) (elsewhere : All (IsElsewhere leaf) all) (within : i ≤ length all) where
  abbrev more : List Entry
  more = insert_at i x all

  path_kept : (k : ℕ) → path_of more (shifted i k) ≡ path_of all k
  path_kept k =
      let paths = paths_more leaf i x [] all is elsewhere within in
      ap (λ ps. slice_index_or ps (shifted i k) []) paths.1
      ∙ insert_shifted i k paths.0 (paths_from [] all) [] (omega (arith, within, length-paths [] all))

  abbrev new_listed : Listed
  new_listed = pro_entry places i (path_of more i) x

  pub listed_grown : pro_listed places more ≡ insert_at i new_listed (map (shifted_entry i) (pro_listed places all))
  listed_grown = ext_get_or no_entry (pro_listed places more) (insert_at i new_listed (map (shifted_entry i) (pro_listed places all)))
      (length-listed places more ∙ length-insert_at i x all ∙ sym (length-insert_at i new_listed (map (shifted_entry i) (pro_listed places all)) ∙ ap (λ n. n + 1) old_length))
      (λ k inside. at k (omega (arith, inside, length-listed places more, length-insert_at i x all)))
    where
      old_length : length (map (shifted_entry i) (pro_listed places all)) ≡ length all
      old_length = length-map (pro_listed places all) (shifted_entry i) ∙ length-listed places all

      in_old : i ≤ length (map (shifted_entry i) (pro_listed places all))
      in_old = omega (arith, old_length, within)

      at : (k : ℕ) → k < length all + 1 → get_or (pro_listed places more) k no_entry ≡ get_or (insert_at i new_listed (map (shifted_entry i) (pro_listed places all))) k no_entry
      at k inside = listed_at places more k (omega (arith, inside, length-insert_at i x all)) ∙ elim (cases_eq k i) [
        | inl same ↦
            ap (entry_number places more) same
            ∙ ap (pro_entry places i (path_of more i)) (insert_here i x all no_slot within)
            ∙ sym (ap (λ n. get_or (insert_at i new_listed (map (shifted_entry i) (pro_listed places all))) n no_entry) same
            ∙ insert_here i new_listed (map (shifted_entry i) (pro_listed places all)) no_entry in_old)
        | inr differ ↦
            let was = unshifted i k (length all) within inside differ in
            ap (entry_number places more) was.2
            ∙ ap (λ path. pro_entry places (shifted i was.0) path (get_or more (shifted i was.0) no_slot)) (path_kept was.0)
            ∙ ap (pro_entry places (shifted i was.0) (path_of all was.0)) (insert_shifted i was.0 x all no_slot within)
            ∙ sym (entry_shifted i places was.0 (path_of all was.0) (get_or all was.0 no_slot))
            ∙ sym (ap (λ n. get_or (insert_at i new_listed (map (shifted_entry i) (pro_listed places all))) n no_entry) was.2
            ∙ insert_shifted i was.0 new_listed (map (shifted_entry i) (pro_listed places all)) no_entry in_old
            ∙ get_or-map (shifted_entry i) (pro_listed places all) was.0 no_entry no_entry (omega (arith, was.1, length-listed places all))
            ∙ ap (shifted_entry i) (listed_at places all was.0 was.1))
      ]
