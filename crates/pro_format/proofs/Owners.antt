-- A block of the tree is of one directory; so a slot that is no header there is no header at all.
use Rattle.std.specs.Prelude.{◌≡◌, ℕ, zero, suc, Bool, true, false, List, [], ◌∷◌, ◌++◌, Contains}
use Rattle.std.proofs.Common.{refl, sym, ◌∙◌, ap, subst, arith, get_or, inl, inr}
use Rattle.std.proofs.lemmas.List.{get_or_default}
use Rattle.std.proofs.lemmas.List.Elements.{Contains-append_left, Contains-append_right}
use Rattle.pro_dir.specs.declared.entry.Entry.{Entry}
use Rattle.pro_dir.specs.Entry.{entries_in, is_directory, key_of}
use Rattle.pro_dir.specs.Tree.{IsRun, HasBlocks, Lists, IsTree}
use Rattle.pro_dir.specs.lemmas.TreeLaws.{one_run}
use Rattle.pro_dir.specs.Walk.{IsKeyOf}
use Rattle.pro_format.specs.lemmas.ProTree.{AreDistinct, distinct_right, in_both}
use Rattle.pro_format.specs.Filled.{IsNoKey}
use Rattle.pro_format.specs.Slots.{IsNoHeader}

module _ (store : List (List ℕ)) where
  same_run : (directory : Bool) (key : ℕ) (own others : List ℕ) → HasBlocks directory store key own → directory ≡ true → IsRun store key others → others ≡ own
  same_run true key own others is same other = one_run store key own others is.run other
  same_run false key own others none same other = absurd (cc)

  pub own_key : (key : ℕ) (own : List ℕ) → IsRun store key own → Contains own key
  own_key key own run = subst (λ bs. Contains bs key) (sym run.is) (0, omega arith, refl)

  -- what a listed directory has in blocks is among the blocks of the listing
  pub owned_inside : (from entries : List Entry) (blocks : List ℕ) (rest : List Entry) (entry : Entry) (own : List ℕ) (block : ℕ) → Lists store from entries blocks rest
      → Contains entries entry → is_directory entry ≡ true → IsRun store (key_of entry) own → Contains own block → Contains blocks block
  owned_inside from [] blocks rest entry own block so has is run in' = absurd (omega (arith, has.1))
  owned_inside from (first ∷ entries) blocks rest entry own block so (zero, within, same) is run in' =
      let own_is : own ≡ so.1 = same_run (is_directory first) (key_of first) so.1 own so.5 (ap is_directory same ∙ is) (subst (λ e. IsRun store (key_of e) own) (sym same) run) in
      subst (λ bs. Contains bs block) (sym so.4) (Contains-append_left so.1 so.2 block (subst (λ bs. Contains bs block) own_is in'))
  owned_inside from (first ∷ entries) blocks rest entry own block so (suc k, within, same) is run in' =
      subst (λ bs. Contains bs block) (sym so.4) (Contains-append_right so.1 so.2 block
      (owned_inside (entries_in store (key_of first) so.1 ++ so.0) entries so.2 rest entry own block so.6 (k, omega (arith, within), same) is run in'))

  one_owner : (from entries : List Entry) (blocks : List ℕ) (rest : List Entry) (entry other : Entry) (own others : List ℕ) (block : ℕ) → AreDistinct blocks → Lists store from entries blocks rest
      → Contains entries entry → Contains entries other → is_directory entry ≡ true → is_directory other ≡ true
      → IsRun store (key_of entry) own → IsRun store (key_of other) others → Contains own block → Contains others block → key_of entry ≡ key_of other
  one_owner from [] blocks rest entry other own others block once so has has' is is' run run' in' in'' = absurd (omega (arith, has.1))
  one_owner from (first ∷ entries) blocks rest entry other own others block once so (zero, within, same) (zero, within', same') is is' run run' in' in'' =
      ap key_of (sym same ∙ same')
  one_owner from (first ∷ entries) blocks rest entry other own others block once so (zero, within, same) (suc k, within', same') is is' run run' in' in'' =
      let own_is : own ≡ so.1 = same_run (is_directory first) (key_of first) so.1 own so.5 (ap is_directory same ∙ is) (subst (λ e. IsRun store (key_of e) own) (sym same) run) in
      absurd (in_both so.1 so.2 block (subst AreDistinct so.4 once) (subst (λ bs. Contains bs block) own_is in')
      (owned_inside (entries_in store (key_of first) so.1 ++ so.0) entries so.2 rest other others block so.6 (k, omega (arith, within'), same') is' run' in''))
  one_owner from (first ∷ entries) blocks rest entry other own others block once so (suc k, within, same) (zero, within', same') is is' run run' in' in'' =
      let own_is : others ≡ so.1 = same_run (is_directory first) (key_of first) so.1 others so.5 (ap is_directory same' ∙ is') (subst (λ e. IsRun store (key_of e) others) (sym same') run') in
      absurd (in_both so.1 so.2 block (subst AreDistinct so.4 once) (subst (λ bs. Contains bs block) own_is in'')
      (owned_inside (entries_in store (key_of first) so.1 ++ so.0) entries so.2 rest entry own block so.6 (k, omega (arith, within), same) is run in'))
  one_owner from (first ∷ entries) blocks rest entry other own others block once so (suc k, within, same) (suc k', within', same') is is' run run' in' in'' =
      one_owner (entries_in store (key_of first) so.1 ++ so.0) entries so.2 rest entry other own others block (distinct_right so.1 so.2 (subst AreDistinct so.4 once)) so.6
      (k, omega (arith, within), same) (k', omega (arith, within'), same') is is' run run' in' in''

  -- each subdirectory that is listed has a run
  pub run_of : (from all : List Entry) (bs : List ℕ) (rest : List Entry) (entry : Entry) → Lists store from all bs rest → Contains all entry → is_directory entry ≡ true
      → (own : List ℕ) × IsRun store (key_of entry) own
  run_of from [] bs rest entry so has is = absurd (omega (arith, has.1))
  run_of from (first ∷ all) bs rest entry so (zero, within, same) is =
      (so.1, subst (λ e. IsRun store (key_of e) so.1) same (of_kind (is_directory first) (ap is_directory same ∙ is) so.5))
    where
      of_kind : (directory : Bool) → directory ≡ true → HasBlocks directory store (key_of first) so.1 → IsRun store (key_of first) so.1
      of_kind true same' has = has.run
      of_kind false same' none = absurd (cc)
  run_of from (first ∷ all) bs rest entry so (suc k, within, same) is =
      run_of (entries_in store (key_of first) so.1 ++ so.0) all so.2 rest entry so.6 (k, omega (arith, within), same) is

  module _ (blocks : List ℕ) (entries : List Entry) (tree : IsTree store blocks entries) where
    pub distinct : AreDistinct (tree.listed.own ++ tree.listed.later)
    distinct = subst AreDistinct tree.listed.is tree.once

    pub in_volume : (own : List ℕ) (block : ℕ) → IsRun store 2 own → Contains own block → Contains tree.listed.own block
    in_volume own block run has = subst (λ bs. Contains bs block) (one_run store 2 tree.listed.own own tree.listed.volume.run run) has

    pub in_entries : (entry : Entry) (own : List ℕ) (block : ℕ) → Contains entries entry → is_directory entry ≡ true → IsRun store (key_of entry) own → Contains own block
        → Contains tree.listed.later block
    in_entries entry own block has is run in' =
        owned_inside (entries_in store 2 tree.listed.own) entries tree.listed.later [] entry own block tree.listed.lists has is run in'

    -- a block of the tree is of one directory
    pub one_directory_of : (key other : ℕ) (own others : List ℕ) (block : ℕ) → IsKeyOf entries key → IsKeyOf entries other → IsRun store key own → IsRun store other others
        → Contains own block → Contains others block → key ≡ other
    one_directory_of key other own others block (inl volume) (inl volume') run run' has has' = volume ∙ sym volume'
    one_directory_of key other own others block (inl volume) (inr entry') run run' has has' =
        absurd (in_both tree.listed.own tree.listed.later block distinct (in_volume own block (subst (λ k. IsRun store k own) volume run) has)
        (in_entries entry'.0 others block entry'.1 entry'.2 (subst (λ k. IsRun store k others) (sym entry'.3) run') has'))
    one_directory_of key other own others block (inr entry) (inl volume') run run' has has' =
        absurd (in_both tree.listed.own tree.listed.later block distinct (in_volume others block (subst (λ k. IsRun store k others) volume' run') has')
        (in_entries entry.0 own block entry.1 entry.2 (subst (λ k. IsRun store k own) (sym entry.3) run) has))
    one_directory_of key other own others block (inr entry) (inr entry') run run' has has' =
        sym entry.3
        ∙ one_owner (entries_in store 2 tree.listed.own) entries tree.listed.later [] entry.0 entry'.0 own others block (distinct_right tree.listed.own tree.listed.later distinct)
        tree.listed.lists entry.1 entry'.1 entry.2 entry'.2 (subst (λ k. IsRun store k own) (sym entry.3) run) (subst (λ k. IsRun store k others) (sym entry'.3) run') has has'
        ∙ entry'.3

    module _ (place slot key : ℕ) (own : List ℕ) (is_key : IsKeyOf entries key) (run : IsRun store key own) (has : Contains own place) (no_header : IsNoHeader place slot key) where
      pub no_header_of_volume : IsNoHeader place slot 2
      no_header_of_volume first same =
          let volume = tree.listed.volume.run in
          let is : key ≡ 2 = one_directory_of key 2 own tree.listed.own place is_key (inl refl) run volume has
          (subst (Contains tree.listed.own) (sym same) (own_key 2 tree.listed.own volume)) in
          no_header first (same ∙ sym is)

      pub no_key_of_entries : IsNoKey place slot entries
      no_key_of_entries k d within directory first same =
          let entry = get_or entries k d in
          let at : Contains entries entry = (k, within, get_or_default entries k entry d within) in
          let its = run_of (entries_in store 2 tree.listed.own) entries tree.listed.later [] entry tree.listed.lists at directory in
          let is : key ≡ key_of entry = one_directory_of key (key_of entry) own its.0 place is_key (inr (entry, at, directory, refl)) run its.1 has
          (subst (Contains its.0) (sym same) (own_key (key_of entry) its.0 its.1)) in
          no_header first (same ∙ sym is)
