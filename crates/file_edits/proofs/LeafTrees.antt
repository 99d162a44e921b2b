-- The entry of an empty directory: the tree of directories has one entry more, and behind it one block more.
use Rattle.std.specs.Prelude.{◌≡◌, ◌≤◌, ◌+◌, ℕ, zero, suc, Bool, true, false, List, [], ◌∷◌, ◌++◌, length, Contains}
use Rattle.std.proofs.Common.{refl, sym, ◌∙◌, ap, subst, arith, inl, inr, length-append}
use Rattle.std.proofs.lemmas.List.Elements.{All-head, All-tail, Contains-append_left, Contains-append_right}
use Rattle.pro_dir.specs.declared.entry.Entry.{Entry}
use Rattle.pro_dir.specs.Entry.{entries_in, is_directory, key_of}
use Rattle.pro_dir.specs.Tree.{IsRun, HasBlocks, Lists, IsTree}
use Rattle.pro_format.specs.lemmas.ProTree.{AreDistinct, distinct_left, distinct_right, in_both}
use Rattle.vol_laws.specs.Inserted.{insert_at}
use Rattle.vol_laws.proofs.Filling.{insert_left, insert_right}
use Rattle.pro_format.specs.Filled.{IsNoKey, IsEntryBefore, filled_entry}
use Rattle.pro_format.specs.Slots.{IsNoHeader}
use Rattle.pro_format.proofs.Alike.{directory_kept, own_kept, key_inside, entries_kept, lists_kept}
use Rattle.pro_format.proofs.FilledBlocks.{in_own_or_later}
use Rattle.file_edits.specs.Leaf.{IsLeafEntered, HasOneLeafMore}
use Rattle.file_edits.proofs.LeafBlocks.{directory_filled, distinct_insert, x_blocks, x_empty}

module _ (less more : List (List ℕ)) (place slot leaf : ℕ) (entered : IsLeafEntered less more place slot leaf) where
  abbrev x : ℕ → Entry
  x key = filled_entry more place slot key

  record ListsMore (from entries : List Entry) (blocks : List ℕ) (key : ℕ) : Type 0 where
    at : ℕ
    within : at ≤ length entries
    block : ℕ
    block_within : block ≤ length blocks
    lists : Lists more from (insert_at at (x key) entries) (insert_at block leaf blocks) []

  -- one block more, behind the blocks of an entry
  block_behind : (block : ℕ) (own later blocks : List ℕ) → blocks ≡ own ++ later → insert_at (length own + block) leaf blocks ≡ own ++ insert_at block leaf later
  block_behind block own later blocks are = ap (insert_at (length own + block) leaf) are ∙ sym (insert_right block leaf own later)

  block_short : (block : ℕ) (own later blocks : List ℕ) → blocks ≡ own ++ later → block ≤ length later → length own + block ≤ length blocks
  block_short block own later blocks are within = omega (arith, within, ap length are, length-append own later)

  -- one entry more among those that are still to be listed
  lists_from : (key k : ℕ) (from entries : List Entry) (blocks : List ℕ) → k ≤ length from → (Contains blocks place → ⊥) → Lists less from entries blocks []
      → ListsMore (insert_at k (x key) from) entries blocks key
  lists_from key zero from entries blocks within none so = record {
    at = 0;
    within = omega arith;
    block = 0;
    block_within = omega arith;
    lists = (
      from,
      leaf ∷ [],
      blocks,
      refl,
      refl,
      x_blocks less more place slot leaf entered key,
      subst (λ es. Lists more (es ++ from) entries blocks []) (sym (x_empty less more place slot leaf entered key))
          (lists_kept less more place slot entered.alike from entries blocks [] none so),
    );
  }
  lists_from key (suc k) from [] blocks within none so = absurd (let empty = ap length so.0 in omega (arith, within, empty))
  lists_from key (suc k) from (entry ∷ entries) blocks within none so =
      let out : (Contains so.1 place → ⊥) = λ has. none (subst (λ bs. Contains bs place) (sym so.4) (Contains-append_left so.1 so.2 place has)) in
      let out' : (Contains so.2 place → ⊥) = λ has. none (subst (λ bs. Contains bs place) (sym so.4) (Contains-append_right so.1 so.2 place has)) in
      let inside = entries_in less (key_of entry) so.1 in
      let short : k ≤ length so.0 = let size = ap length so.3 in omega (arith, within, size) in
      let deep : length inside + k ≤ length (inside ++ so.0) = omega (arith, short, length-append inside so.0) in
      let further = lists_from key (length inside + k) (inside ++ so.0) entries so.2 deep out' so.6 in
      let next : insert_at (length inside + k) (x key) (inside ++ so.0) ≡ entries_in more (key_of entry) so.1 ++ insert_at k (x key) so.0 =
      sym (insert_right k (x key) inside so.0) ∙ ap (λ es. es ++ insert_at k (x key) so.0) (sym (entries_kept less more place slot entered.alike (key_of entry) so.1 out)) in
      record {
        at = suc further.at;
        within = let deeper = further.within in omega (arith, deeper);
        block = length so.1 + further.block;
        block_within = block_short further.block so.1 so.2 blocks so.4 further.block_within;
        lists = (
          insert_at k (x key) so.0,
          so.1,
          insert_at further.block leaf so.2,
          ap (insert_at (suc k) (x key)) so.3,
          block_behind further.block so.1 so.2 blocks so.4,
          own_kept less more place slot entered.alike (is_directory entry) (key_of entry) so.1 (λ is first same. out (subst (Contains so.1) (sym same) (key_inside less more place slot entered.alike (is_directory entry) (key_of entry) so.1 so.5 is))) so.5,
          subst (λ es. Lists more es (insert_at further.at (x key) entries) (insert_at further.block leaf so.2) []) next further.lists,
        );
      }

  record ListsDeeper (from entries : List Entry) (blocks : List ℕ) : Type 0 where
    key : ℕ
    own : List ℕ
    run : IsRun less key own
    has : Contains own place
    more' : ListsMore from entries blocks key
    of : IsEntryBefore entries more'.at key

  subdirectory : (directory : Bool) (key : ℕ) (own : List ℕ) → HasBlocks directory less key own → Contains own place → (directory ≡ true) × IsRun less key own
  subdirectory true key own is has = (refl, is.run)
  subdirectory false key own none has = absurd (let empty = ap length none in omega (arith, has.1, empty))

  -- one entry more in a directory that is still to be opened
  lists_deeper : (from entries : List Entry) (blocks : List ℕ) → AreDistinct blocks → Contains blocks place → IsNoKey place slot entries → Lists less from entries blocks []
      → ListsDeeper from entries blocks
  lists_deeper from [] blocks once has no_key so = absurd (let empty = ap length so.1 in omega (arith, has.1, empty))
  lists_deeper from (entry ∷ entries) blocks once has no_key so =
      let once' : AreDistinct (so.1 ++ so.2) = subst AreDistinct so.4 once in
      let first = All-head (λ e. is_directory e ≡ true → IsNoHeader place slot (key_of e)) entry entries no_key in
      let own = own_kept less more place slot entered.alike (is_directory entry) (key_of entry) so.1 first so.5 in
      elim (in_own_or_later place so.1 so.2 (subst (λ bs. Contains bs place) so.4 has)) [
        | inl here ↦
            let kind = subdirectory (is_directory entry) (key_of entry) so.1 so.5 here in
            let one = directory_filled less more place slot leaf entered (key_of entry) so.1 (first kind.0) (distinct_left so.1 so.2 once') here in
            let inside = entries_in less (key_of entry) so.1 in
            let deep : one.at ≤ length (inside ++ so.0) = let low = one.within in omega (arith, low, length-append inside so.0) in
            let further = lists_from (key_of entry) one.at (inside ++ so.0) entries so.2 deep (in_both so.1 so.2 place once' here) so.6 in
            let next : insert_at one.at (x (key_of entry)) (inside ++ so.0) ≡ entries_in more (key_of entry) so.1 ++ so.0 =
            sym (insert_left one.at (x (key_of entry)) inside so.0 one.within) ∙ ap (λ es. es ++ so.0) (sym one.is) in
            record {
              key = key_of entry;
              own = so.1;
              run = kind.1;
              has = here;
              more' = record {
                at = suc further.at;
                within = let deeper = further.within in omega (arith, deeper);
                block = length so.1 + further.block;
                block_within = block_short further.block so.1 so.2 blocks so.4 further.block_within;
                lists = (
                  so.0,
                  so.1,
                  insert_at further.block leaf so.2,
                  so.3,
                  block_behind further.block so.1 so.2 blocks so.4,
                  own,
                  subst (λ es. Lists more es (insert_at further.at (x (key_of entry)) entries) (insert_at further.block leaf so.2) []) next further.lists,
                );
              };
              of = (0, entry, omega arith, (omega arith, refl), kind.0, refl);
            }
        | inr there ↦
            let out : (Contains so.1 place → ⊥) = λ here. in_both so.1 so.2 place once' here there in
            let further = lists_deeper (entries_in less (key_of entry) so.1 ++ so.0) entries so.2 (distinct_right so.1 so.2 once') there
            (All-tail (λ e. is_directory e ≡ true → IsNoHeader place slot (key_of e)) entry entries no_key) so.6 in
            record {
              key = further.key;
              own = further.own;
              run = further.run;
              has = further.has;
              more' = record {
                at = suc further.more'.at;
                within = let deeper = further.more'.within in omega (arith, deeper);
                block = length so.1 + further.more'.block;
                block_within = block_short further.more'.block so.1 so.2 blocks so.4 further.more'.block_within;
                lists = (
                  so.0,
                  so.1,
                  insert_at further.more'.block leaf so.2,
                  so.3,
                  block_behind further.more'.block so.1 so.2 blocks so.4,
                  own,
                  subst (λ es. Lists more (es ++ so.0) (insert_at further.more'.at (x further.key) entries) (insert_at further.more'.block leaf so.2) [])
                      (sym (entries_kept less more place slot entered.alike (key_of entry) so.1 out)) further.more'.lists,
                );
              };
              of =
                  let earlier = further.of.2 in
                  (suc further.of.0, further.of.1, omega (arith, earlier), (omega (arith, further.of.3.0), further.of.3.1), further.of.4, further.of.5);
            }
      ]

  -- the whole tree
  pub tree_grown : (blocks : List ℕ) (entries : List Entry) → IsTree less blocks entries → (Contains blocks leaf → ⊥) → Contains blocks place → IsNoHeader place slot 2
      → IsNoKey place slot entries → HasOneLeafMore less more place slot leaf blocks entries
  tree_grown blocks entries tree new has no_header no_key =
      let so = tree.listed in
      let once' : AreDistinct (so.own ++ so.later) = subst AreDistinct so.is tree.once in
      let volume = directory_kept less more place slot entered.alike 0x0f 2 so.own no_header so.volume in
      elim (in_own_or_later place so.own so.later (subst (λ bs. Contains bs place) so.is has)) [
        | inl here ↦
            let one = directory_filled less more place slot leaf entered 2 so.own no_header (distinct_left so.own so.later once') here in
            let further = lists_from 2 one.at (entries_in less 2 so.own) entries so.later one.within (in_both so.own so.later place once' here) so.lists in
            record {
              key = 2;
              own = so.own;
              run = so.volume.run;
              has = here;
              at = further.at;
              of = inl refl;
              within = further.within;
              block = length so.own + further.block;
              block_within = block_short further.block so.own so.later blocks so.is further.block_within;
              tree = record {
                listed = record {
                  own = so.own;
                  later = insert_at further.block leaf so.later;
                  is = block_behind further.block so.own so.later blocks so.is;
                  volume = volume;
                  lists = subst (λ es. Lists more es (insert_at further.at (x 2) entries) (insert_at further.block leaf so.later) []) (sym one.is) further.lists;
                };
                once = distinct_insert (length so.own + further.block) leaf blocks new tree.once;
              };
            }
        | inr there ↦
            let out : (Contains so.own place → ⊥) = λ here. in_both so.own so.later place once' here there in
            let further = lists_deeper (entries_in less 2 so.own) entries so.later (distinct_right so.own so.later once') there no_key so.lists in
            record {
              key = further.key;
              own = further.own;
              run = further.run;
              has = further.has;
              at = further.more'.at;
              of = inr further.of;
              within = further.more'.within;
              block = length so.own + further.more'.block;
              block_within = block_short further.more'.block so.own so.later blocks so.is further.more'.block_within;
              tree = record {
                listed = record {
                  own = so.own;
                  later = insert_at further.more'.block leaf so.later;
                  is = block_behind further.more'.block so.own so.later blocks so.is;
                  volume = volume;
                  lists = subst (λ es. Lists more es (insert_at further.more'.at (x further.key) entries) (insert_at further.more'.block leaf so.later) [])
                      (sym (entries_kept less more place slot entered.alike 2 so.own out)) further.more'.lists;
                };
                once = distinct_insert (length so.own + further.more'.block) leaf blocks new tree.once;
              };
            }
      ]
