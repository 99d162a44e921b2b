-- The path of an entry that is entered: its name below the path of its directory.
use Rattle.std.specs.Prelude.{◌≡◌, ◌≢◌, ◌<◌, ◌≤◌, ℕ, ◌==◌, zero, suc, if◌then◌else◌, Bool, true, false, List, [], ◌∷◌, Some, length, find, option_map, slice_index_or}
use Rattle.std.proofs.Common.{refl, ◌∙◌, ap, arith, get_or}
use Rattle.std.proofs.lemmas.Bool.{eq-eqb}
use Rattle.std.proofs.lemmas.Bool.Decides.{nat_tests}
use Rattle.pro_dir.specs.declared.entry.Entry.{Entry}
use Rattle.pro_dir.specs.Entry.{is_directory, key_of}
use Rattle.pro_dir.specs.Paths.{path_at, path_below, paths_from}
use Rattle.pro_format.specs.Pro.{no_slot}
use Rattle.vol_laws.specs.Inserted.{insert_at}

-- the subdirectories that are known after an entry, and after the first entries, so many
abbrev with_directory : List (ℕ × List ℕ) → Entry → Bool → List (ℕ × List ℕ)
with_directory known entry directory = if directory then ((key_of entry, path_below known entry) ∷ known) else known

abbrev pub known_after : List (ℕ × List ℕ) → List Entry → ℕ → List (ℕ × List ℕ)
known_after known all zero = known
known_after known [] (suc k) = known
known_after known (entry ∷ all) (suc k) = known_after (if is_directory entry then ((key_of entry, path_below known entry) ∷ known) else known) all k

pub new_path : (known : List (ℕ × List ℕ)) (all : List Entry) (k : ℕ) (x : Entry) → k ≤ length all
    → slice_index_or (paths_from known (insert_at k x all)) k [] ≡ path_below (known_after known all k) x
new_path known all zero x within = refl
new_path known [] (suc k) x within = absurd (omega (arith, within))
new_path known (entry ∷ all) (suc k) x within = new_path (with_directory known entry (is_directory entry)) all k x (omega (arith, within))

module _ (key : ℕ) where
  -- an entry is not that of the subdirectory with the key block
  abbrev pub IsOther : Entry → Type 0
  IsOther entry = is_directory entry ≡ true → key_of entry ≢ key

  known_other : (known : List (ℕ × List ℕ)) (entry : Entry) → IsOther entry → path_at (with_directory known entry (is_directory entry)) key ≡ path_at known key
  known_other known entry other = by_kind (is_directory entry) refl
    where
      by_key : (same : Bool) → (key_of entry == key) ≡ same → key_of entry ≢ key
          → option_map (λ (directory : ℕ × List ℕ). directory.1) (if same then Some (key_of entry, path_below known entry) else find (λ (directory : ℕ × List ℕ). directory.0 == key) known) ≡ path_at known key
      by_key true is differ = absurd (differ (grind (arith, nat_tests, is)))
      by_key false is differ = refl

      by_kind : (directory : Bool) → is_directory entry ≡ directory → path_at (with_directory known entry directory) key ≡ path_at known key
      by_kind true is = by_key (key_of entry == key) refl (other is)
      by_kind false is = refl

  known_here : (known : List (ℕ × List ℕ)) (entry : Entry) → is_directory entry ≡ true → key_of entry ≡ key
      → path_at (with_directory known entry (is_directory entry)) key ≡ Some (path_below known entry)
  known_here known entry directory same =
      ap (λ b. path_at (with_directory known entry b) key) directory
      ∙ ap (λ b. option_map (λ (directory : ℕ × List ℕ). directory.1) (if b then Some (key_of entry, path_below known entry) else find (λ (directory : ℕ × List ℕ). directory.0 == key) known))
      (eq-eqb (key_of entry) key same)

  -- none of the first entries is that of the subdirectory
  pub path_none : (known : List (ℕ × List ℕ)) (all : List Entry) (k : ℕ) → ((m : ℕ) → m < k → m < length all → IsOther (get_or all m no_slot))
      → path_at (known_after known all k) key ≡ path_at known key
  path_none known all zero none = refl
  path_none known [] (suc k) none = refl
  path_none known (entry ∷ all) (suc k) none =
      path_none (with_directory known entry (is_directory entry)) all k (λ m low inside. none (suc m) (omega (arith, low)) (omega (arith, inside)))
      ∙ known_other known entry (none 0 (omega arith) (omega arith))

  -- the last of the first entries that is its entry has its path
  pub path_some : (known : List (ℕ × List ℕ)) (all : List Entry) (n k : ℕ) → n < k → n < length all → is_directory (get_or all n no_slot) ≡ true → key_of (get_or all n no_slot) ≡ key
      → ((m : ℕ) → n < m → m < length all → IsOther (get_or all m no_slot)) → path_at (known_after known all k) key ≡ Some (slice_index_or (paths_from known all) n [])
  path_some known [] n k low inside directory same none = absurd (omega (arith, inside))
  path_some known (entry ∷ all) n zero low inside directory same none = absurd (omega (arith, low))
  path_some known (entry ∷ all) zero (suc k) low inside directory same none =
      path_none (with_directory known entry (is_directory entry)) all k (λ m low' inside'. none (suc m) (omega arith) (omega (arith, inside')))
      ∙ known_here known entry directory same
  path_some known (entry ∷ all) (suc n) (suc k) low inside directory same none =
      path_some (with_directory known entry (is_directory entry)) all n k (omega (arith, low)) (omega (arith, inside)) directory same
      (λ m low' inside'. none (suc m) (omega (arith, low')) (omega (arith, inside')))
