-- No two subdirectories have one key block; so what the entries say of a key block is one path.
use Rattle.std.specs.Prelude.{◌≡◌, ◌<◌, ℕ, zero, suc, Bool, true, false, List, [], ◌∷◌, ◌++◌, Option, Some, None, length, Contains}
use Rattle.std.proofs.Common.{sym, ◌∙◌, ap, subst, arith, get_or, inl, inr}
use Rattle.std.proofs.lemmas.Bool.{cases_eq, cases_lt}
use Rattle.std.proofs.lemmas.List.{get_or_default}
use Rattle.pro_dir.specs.declared.entry.Entry.{Entry}
use Rattle.pro_dir.specs.Entry.{entries_in, is_directory, key_of}
use Rattle.pro_dir.specs.Paths.{path_at}
use Rattle.pro_dir.specs.Tree.{IsRun, HasBlocks, Lists, IsTree}
use Rattle.pro_dir.specs.Walk.{IsKeyOf}
use Rattle.pro_format.specs.Pro.{no_slot}
use Rattle.pro_format.specs.lemmas.ProTree.{AreDistinct, distinct_right, in_both}
use Rattle.pro_format.specs.Filled.{IsDirectoryBefore}
use Rattle.pro_format.specs.Slots.{IsPathOfDirectory}
use Rattle.pro_format.proofs.NewPaths.{known_after, path_none, path_some}
use Rattle.pro_format.proofs.Owners.{own_key, owned_inside, run_of, distinct, in_entries}

pub contains_number : (all : List Entry) (k : ℕ) → k < length all → Contains all (get_or all k no_slot)
contains_number all k within = (k, within, get_or_default all k (get_or all k no_slot) no_slot within)

has_key : (directory : Bool) (store : List (List ℕ)) (key : ℕ) (own : List ℕ) → directory ≡ true → HasBlocks directory store key own → Contains own key
has_key true store key own is has = own_key store key own has.run
has_key false store key own is none = absurd (cc)

one_key : (store : List (List ℕ)) (from all : List Entry) (blocks : List ℕ) → AreDistinct blocks → Lists store from all blocks [] → (m n : ℕ) → m < n → n < length all
    → is_directory (get_or all m no_slot) ≡ true → is_directory (get_or all n no_slot) ≡ true → key_of (get_or all m no_slot) ≡ key_of (get_or all n no_slot) → ⊥
one_key store from [] blocks once so m n less within is is' same = omega (arith, within)
one_key store from (entry ∷ all) blocks once so m zero less within is is' same = omega (arith, less)
one_key store from (entry ∷ all) blocks once so zero (suc n) less within is is' same =
    let others = entries_in store (key_of entry) so.1 ++ so.0 in
    let later = contains_number all n (omega (arith, within)) in
    let its = run_of store others all so.2 [] (get_or all n no_slot) so.6 later is' in
    in_both so.1 so.2 (key_of entry) (subst AreDistinct so.4 once) (has_key (is_directory entry) store (key_of entry) so.1 is so.5)
    (owned_inside store others all so.2 [] (get_or all n no_slot) its.0 (key_of entry) so.6 later is' its.1
    (subst (Contains its.0) (sym same) (own_key store (key_of (get_or all n no_slot)) its.0 its.1)))
one_key store from (entry ∷ all) blocks once so (suc m) (suc n) less within is is' same =
    one_key store (entries_in store (key_of entry) so.1 ++ so.0) all so.2 (distinct_right so.1 so.2 (subst AreDistinct so.4 once)) so.6 m n (omega (arith, less)) (omega (arith, within)) is is' same

module _ (store : List (List ℕ)) (blocks : List ℕ) (all : List Entry) (tree : IsTree store blocks all) where
  -- each directory has a run
  pub key_run : (key : ℕ) → IsKeyOf all key → (own : List ℕ) × IsRun store key own
  key_run key (inl volume) = (tree.listed.own, subst (λ k. IsRun store k tree.listed.own) (sym volume) tree.listed.volume.run)
  key_run key (inr (entry, has, is, same)) =
      let its = run_of store (entries_in store 2 tree.listed.own) all tree.listed.later [] entry tree.listed.lists has is in
      (its.0, subst (λ k. IsRun store k its.0) same its.1)

  -- no subdirectory has the key block of the volume's directory
  no_volume_key : (entry : Entry) → Contains all entry → is_directory entry ≡ true → key_of entry ≡ 2 → ⊥
  no_volume_key entry has is same =
      let its = run_of store (entries_in store 2 tree.listed.own) all tree.listed.later [] entry tree.listed.lists has is in
      in_both tree.listed.own tree.listed.later 2 (distinct store blocks all tree) (own_key store 2 tree.listed.own tree.listed.volume.run)
      (in_entries store blocks all tree entry its.0 2 has is its.1 (subst (Contains its.0) same (own_key store (key_of entry) its.0 its.1)))

  keys_apart : (m n : ℕ) → m < n → n < length all → is_directory (get_or all m no_slot) ≡ true → is_directory (get_or all n no_slot) ≡ true
      → key_of (get_or all m no_slot) ≡ key_of (get_or all n no_slot) → ⊥
  keys_apart = one_key store (entries_in store 2 tree.listed.own) all tree.listed.later (distinct_right tree.listed.own tree.listed.later (distinct store blocks all tree)) tree.listed.lists

  one_number : (m n : ℕ) → m < length all → n < length all → is_directory (get_or all m no_slot) ≡ true → is_directory (get_or all n no_slot) ≡ true
      → key_of (get_or all m no_slot) ≡ key_of (get_or all n no_slot) → m ≡ n
  one_number m n in_m in_n is is' same = elim (cases_eq m n) [
    | inl equal ↦ equal
    | inr differ ↦ elim (cases_lt m n) [
      | inl less ↦ absurd (keys_apart m n less in_n is is' same)
      | inr not_less ↦ absurd (keys_apart n m (omega (arith, not_less, differ)) in_m is' is (sym same))
    ]
  ]

  -- what is known of a directory where an entry of it stands is its path
  pub path_known : (at key : ℕ) (above : Option (List ℕ)) → IsDirectoryBefore all at key → IsPathOfDirectory all key above → path_at (known_after [] all at) key ≡ above
  path_known at key None before volume = path_none key [] all at (λ m low inside is same. no_volume_key (get_or all m no_slot) (contains_number all m inside) is (same ∙ volume))
  path_known at key (Some path) (inl volume) of =
      absurd (no_volume_key (get_or all of.number no_slot) (contains_number all of.number of.inside) of.subdirectory (of.key_is ∙ volume))
  path_known at key (Some path) (inr (number, entry, low, is_number, directory, key_is)) of =
      let there : get_or all number no_slot ≡ entry = get_or_default all number no_slot entry is_number.0 ∙ is_number.1 in
      let same : number ≡ of.number = one_number number of.number is_number.0 of.inside (ap is_directory there ∙ directory) of.subdirectory (ap key_of there ∙ key_is ∙ sym of.key_is) in
      path_some key [] all of.number at (omega (arith, same, low)) of.inside of.subdirectory of.key_is
      (λ m after inside is again. keys_apart of.number m after inside of.subdirectory is (of.key_is ∙ sym again))
      ∙ ap (λ (p : List ℕ). Some p) (sym of.path_is)
