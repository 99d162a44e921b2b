-- A slot of a directory block that is emptied: the tree of directories has one entry less.
use Rattle.std.specs.Prelude.{◌≡◌, ◌≤◌, ◌+◌, ℕ, zero, suc, Bool, true, false, List, [], ◌∷◌, ◌++◌, length, Contains}
use Rattle.std.proofs.Common.{refl, sym, ◌∙◌, ap, subst, arith, inl, inr, length-append}
use Rattle.std.proofs.lemmas.List.Elements.{All-head, All-tail, Contains-append_left, Contains-append_right}
use Rattle.pro_dir.specs.declared.entry.Entry.{Entry}
use Rattle.pro_dir.specs.Entry.{entries_in, is_directory, key_of}
use Rattle.pro_dir.specs.Tree.{IsRun, HasBlocks, Lists, IsTree}
use Rattle.pro_format.specs.lemmas.ProTree.{AreDistinct, distinct_left, distinct_right, in_both}
use Rattle.vol_laws.specs.Inserted.{insert_at}
use Rattle.pro_format.specs.Filled.{IsAlike, IsFilled, IsNoKey, filled_entry, HasOneLess}
use Rattle.pro_format.specs.Slots.{IsNoHeader}
use Rattle.vol_laws.proofs.Filling.{insert_left, insert_right}
use Rattle.pro_format.proofs.Alike.{directory_kept, own_kept, key_inside, entries_kept, lists_kept}
use Rattle.pro_format.proofs.FilledBlocks.{in_own_or_later, directory_filled, x_file}

same_head : (e f : Entry) (es fs : List Entry) → e ∷ es ≡ f ∷ fs → e ≡ f
same_head e f es fs is = cc

same_tail : (e f : Entry) (es fs : List Entry) → e ∷ es ≡ f ∷ fs → es ≡ fs
same_tail e f es fs is = cc

-- the other way round
flipped : (old new : List (List ℕ)) (place slot : ℕ) → IsAlike old new place slot → IsAlike new old place slot
flipped old new place slot alike = record {
  size = sym alike.size;
  elsewhere = λ other differ. sym (alike.elsewhere other differ);
  others = λ other differ. sym (alike.others other differ);
  next = sym alike.next;
  kind = λ first. sym (alike.kind first);
  entry_size = λ first. sym (alike.entry_size first);
  entry_count = λ first. sym (alike.entry_count first);
}

-- an entry inserted behind some others
inserted_behind : (k : ℕ) (x : Entry) (inside some others : List Entry) → some ≡ insert_at k x others → inside ++ some ≡ insert_at (length inside + k) x (inside ++ others)
inserted_behind k x inside some others after = ap (λ es. inside ++ es) after ∙ insert_right k x inside others

module _ (less more : List (List ℕ)) (place slot : ℕ) (filled : IsFilled less more place slot) where
  abbrev x : ℕ → Entry
  x key = filled_entry more place slot key

  back : IsAlike more less place slot
  back = flipped less more place slot filled.alike

  -- the runs and directories of the fuller store are those of the emptier one
  record ListsLess (from entries : List Entry) (blocks : List ℕ) (key : ℕ) : Type 0 where
    at : ℕ
    others : List Entry
    within : at ≤ length others
    is : entries ≡ insert_at at (x key) others
    lists : Lists less from others blocks []

  none_of : (directory : Bool) (key : ℕ) (own : List ℕ) → directory ≡ false → HasBlocks directory more key own → own ≡ []
  none_of true key own is has = absurd (cc)
  none_of false key own is none = none

  lists_unfrom : (key k : ℕ) (from entries : List Entry) (blocks : List ℕ) → k ≤ length from → (Contains blocks place → ⊥)
      → Lists more (insert_at k (x key) from) entries blocks [] → ListsLess from entries blocks key
  lists_unfrom key zero from [] blocks within none so = absurd (let empty = ap length so.0 in omega (arith, empty))
  lists_unfrom key zero from (entry ∷ entries) blocks within none so =
      let first : entry ≡ x key = sym (same_head (x key) entry from so.0 so.3) in
      let after : so.0 ≡ from = sym (same_tail (x key) entry from so.0 so.3) in
      let empty : so.1 ≡ [] = none_of (is_directory entry) (key_of entry) so.1 (ap is_directory first ∙ x_file less more place slot filled key) so.5 in
      let blocks_are : so.2 ≡ blocks = sym (so.4 ∙ ap (λ bs. bs ++ so.2) empty) in
      record {
        at = 0;
        others = entries;
        within = omega arith;
        is = ap (λ e. e ∷ entries) first;
        lists = lists_kept more less place slot back from entries blocks [] none
            (subst (λ es. Lists more es entries blocks []) (ap (λ bs. entries_in more (key_of entry) bs ++ so.0) empty ∙ after)
            (subst (λ bs. Lists more (entries_in more (key_of entry) so.1 ++ so.0) entries bs []) blocks_are so.6));
      }
  lists_unfrom key (suc k) [] entries blocks within none so = absurd (omega (arith, within))
  lists_unfrom key (suc k) (first ∷ others) [] blocks within none so = absurd (let empty = ap length so.0 in omega (arith, empty))
  lists_unfrom key (suc k) (first ∷ others) (entry ∷ entries) blocks within none so =
      let same : first ≡ entry = same_head first entry (insert_at k (x key) others) so.0 so.3 in
      let after : so.0 ≡ insert_at k (x key) others = sym (same_tail first entry (insert_at k (x key) others) so.0 so.3) in
      let out : (Contains so.1 place → ⊥) = λ has. none (subst (λ bs. Contains bs place) (sym so.4) (Contains-append_left so.1 so.2 place has)) in
      let out' : (Contains so.2 place → ⊥) = λ has. none (subst (λ bs. Contains bs place) (sym so.4) (Contains-append_right so.1 so.2 place has)) in
      let inside = entries_in less (key_of entry) so.1 in
      let short : k ≤ length others = omega (arith, within) in
      let deep : length inside + k ≤ length (inside ++ others) = omega (arith, short, length-append inside others) in
      let next : entries_in more (key_of entry) so.1 ++ so.0 ≡ insert_at (length inside + k) (x key) (inside ++ others) =
      ap (λ es. es ++ so.0) (entries_kept less more place slot filled.alike (key_of entry) so.1 out)
      ∙ inserted_behind k (x key) (entries_in less (key_of entry) so.1) so.0 others after in
      let further = lists_unfrom key (length inside + k) (inside ++ others) entries so.2 deep out' (subst (λ es. Lists more es entries so.2 []) next so.6) in
      record {
        at = suc further.at;
        others = entry ∷ further.others;
        within = let deeper = further.within in omega (arith, deeper);
        is = ap (λ es. entry ∷ es) further.is;
        lists = (
          others,
          so.1,
          so.2,
          ap (λ e. e ∷ others) same,
          so.4,
          own_kept more less place slot back (is_directory entry) (key_of entry) so.1
              (λ is zeroth at. out (subst (Contains so.1) (sym at) (inside_more (is_directory entry) (key_of entry) so.1 so.5 is))) so.5,
          further.lists,
        );
      }
    where
      inside_more : (directory : Bool) (key : ℕ) (own : List ℕ) → HasBlocks directory more key own → directory ≡ true → Contains own key
      inside_more directory key own has is = key_inside more less place slot back directory key own has is

  record UndoesDeeper (from entries : List Entry) (blocks : List ℕ) : Type 0 where
    key : ℕ
    own : List ℕ
    run : IsRun more key own
    has : Contains own place
    less' : ListsLess from entries blocks key

  subdirectory : (directory : Bool) (key : ℕ) (own : List ℕ) → HasBlocks directory more key own → Contains own place → (directory ≡ true) × IsRun more key own
  subdirectory true key own is has = (refl, is.run)
  subdirectory false key own none has = absurd (let empty = ap length none in omega (arith, has.1, empty))

  lists_undeeper : (from entries : List Entry) (blocks : List ℕ) → AreDistinct blocks → Contains blocks place → IsNoKey place slot entries → Lists more from entries blocks []
      → UndoesDeeper from entries blocks
  lists_undeeper from [] blocks once has no_key so = absurd (let empty = ap length so.1 in omega (arith, has.1, empty))
  lists_undeeper from (entry ∷ entries) blocks once has no_key so =
      let once' : AreDistinct (so.1 ++ so.2) = subst AreDistinct so.4 once in
      let first = All-head (λ e. is_directory e ≡ true → IsNoHeader place slot (key_of e)) entry entries no_key in
      let own = own_kept more less place slot back (is_directory entry) (key_of entry) so.1 first so.5 in
      let inside = entries_in less (key_of entry) so.1 in
      elim (in_own_or_later place so.1 so.2 (subst (λ bs. Contains bs place) so.4 has)) [
        | inl here ↦
            let kind = subdirectory (is_directory entry) (key_of entry) so.1 so.5 here in
            let one = directory_filled less more place slot filled (key_of entry) so.1 (first kind.0) (distinct_left so.1 so.2 once') here in
            let deep : one.at ≤ length (inside ++ so.0) = let low = one.within in omega (arith, low, length-append inside so.0) in
            let next : entries_in more (key_of entry) so.1 ++ so.0 ≡ insert_at one.at (x (key_of entry)) (inside ++ so.0) =
            ap (λ es. es ++ so.0) one.is ∙ insert_left one.at (x (key_of entry)) inside so.0 one.within in
            let further = lists_unfrom (key_of entry) one.at (inside ++ so.0) entries so.2 deep (in_both so.1 so.2 place once' here) (subst (λ es. Lists more es entries so.2 []) next so.6) in
            record {
              key = key_of entry;
              own = so.1;
              run = kind.1;
              has = here;
              less' = record {
                at = suc further.at;
                others = entry ∷ further.others;
                within = let deeper = further.within in omega (arith, deeper);
                is = ap (λ es. entry ∷ es) further.is;
                lists = (so.0, so.1, so.2, so.3, so.4, own, further.lists);
              };
            }
        | inr there ↦
            let out : (Contains so.1 place → ⊥) = λ here. in_both so.1 so.2 place once' here there in
            let further = lists_undeeper (inside ++ so.0) entries so.2 (distinct_right so.1 so.2 once') there
            (All-tail (λ e. is_directory e ≡ true → IsNoHeader place slot (key_of e)) entry entries no_key)
            (subst (λ es. Lists more (es ++ so.0) entries so.2 []) (entries_kept less more place slot filled.alike (key_of entry) so.1 out) so.6) in
            record {
              key = further.key;
              own = further.own;
              run = further.run;
              has = further.has;
              less' = record {
                at = suc further.less'.at;
                others = entry ∷ further.less'.others;
                within = let deeper = further.less'.within in omega (arith, deeper);
                is = ap (λ es. entry ∷ es) further.less'.is;
                lists = (so.0, so.1, so.2, so.3, so.4, own, further.less'.lists);
              };
            }
      ]

  -- the whole tree
  pub tree_emptied : (blocks : List ℕ) (entries : List Entry) → IsTree more blocks entries → Contains blocks place → IsNoHeader place slot 2 → IsNoKey place slot entries
      → HasOneLess less more place slot blocks entries
  tree_emptied blocks entries tree has no_header no_key =
      let so = tree.listed in
      let once' : AreDistinct (so.own ++ so.later) = subst AreDistinct so.is tree.once in
      let volume = directory_kept more less place slot back 0x0f 2 so.own no_header so.volume in
      elim (in_own_or_later place so.own so.later (subst (λ bs. Contains bs place) so.is has)) [
        | inl here ↦
            let one = directory_filled less more place slot filled 2 so.own no_header (distinct_left so.own so.later once') here in
            let further = lists_unfrom 2 one.at (entries_in less 2 so.own) entries so.later one.within (in_both so.own so.later place once' here)
            (subst (λ es. Lists more es entries so.later []) one.is so.lists) in
            record {
              key = 2;
              own = so.own;
              run = so.volume.run;
              has = here;
              at = further.at;
              others = further.others;
              within = further.within;
              is = further.is;
              tree = record { listed = record { own = so.own; later = so.later; is = so.is; volume = volume; lists = further.lists }; once = tree.once };
            }
        | inr there ↦
            let out : (Contains so.own place → ⊥) = λ here. in_both so.own so.later place once' here there in
            let further = lists_undeeper (entries_in less 2 so.own) entries so.later (distinct_right so.own so.later once') there no_key
            (subst (λ es. Lists more es entries so.later []) (entries_kept less more place slot filled.alike 2 so.own out) so.lists) in
            record {
              key = further.key;
              own = further.own;
              run = further.run;
              has = further.has;
              at = further.less'.at;
              others = further.less'.others;
              within = further.less'.within;
              is = further.less'.is;
              tree = record { listed = record { own = so.own; later = so.later; is = so.is; volume = volume; lists = further.less'.lists }; once = tree.once };
            }
      ]
