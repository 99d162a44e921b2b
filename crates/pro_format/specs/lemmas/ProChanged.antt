-- A tree of directories in a store where some entries were changed, and no link, no type of a header and no subdirectory's entry.
use Rattle.std.specs.Prelude.{◌≡◌, ℕ, ◌/◌, Bool, true, false, List, [], ◌∷◌, ◌++◌, length, map, slice_index, Contains}
use Rattle.std.proofs.Common.{refl, sym, ◌∙◌, ap, arith, subst}
use Rattle.std.proofs.lemmas.List.{map-append}
use Rattle.std.proofs.lemmas.List.Elements.{Contains-append_left, Contains-append_right}
use Rattle.vol_layout.proofs.Lists.{Contains-cons}
use Rattle.a2_device.specs.Device.{unit_at}
use Rattle.pro_dir.specs.declared.entry.Entry.{Entry}
use Rattle.pro_dir.specs.Entry.{entries_of, entries_in, is_directory, key_of, slot_bytes}
use Rattle.pro_dir.specs.Tree.{Leads, IsRun, IsDirectory, HasBlocks, Lists, IsTree, next_of}
use Rattle.pro_dir.specs.Volume.{Directory as Tree, Describes, map_blocks, total_blocks}
use Rattle.pro_format.specs.lemmas.ProDescribed.{volume_inside}

-- a block of the directories has its link, the type and the sizes of a header, and changed entries
pub record IsKept (change : Entry → Entry) (store new : List (List ℕ)) (block : ℕ) : Type 0 where
  pub next : next_of (unit_at new block) ≡ next_of (unit_at store block)
  pub kind : slice_index (unit_at new block) 0x04 / 16 ≡ slice_index (unit_at store block) 0x04 / 16
  pub entry_size : slice_index (unit_at new block) 0x23 ≡ slice_index (unit_at store block) 0x23
  pub entry_count : slice_index (unit_at new block) 0x24 ≡ slice_index (unit_at store block) 0x24
  pub entries : (key : ℕ) → entries_of key block (unit_at new block) ≡ map change (entries_of key block (unit_at store block))

-- what is a directory stays as it is
pub record KeepsDirectories (change : Entry → Entry) : Type 0 where
  pub same_kind : (entry : Entry) → is_directory (change entry) ≡ is_directory entry
  pub same : (entry : Entry) → is_directory entry ≡ true → change entry ≡ entry

-- some blocks are among those of the directories
abbrev pub AreAmong : List ℕ → List ℕ → Type 0
AreAmong blocks all = (block : ℕ) → Contains blocks block → Contains all block

module _ (change : Entry → Entry) (keeps : KeepsDirectories change) (store new : List (List ℕ)) (all : List ℕ) (size : length new ≡ length store)
    (kept : (block : ℕ) → Contains all block → IsKept change store new block) where
  leads_changed : (from : ℕ) (blocks : List ℕ) (last : ℕ) → Contains all from → AreAmong blocks all → Leads store from blocks last → Leads new from blocks last
  leads_changed from [] last has among way = way
  leads_changed from (block ∷ rest) last has among way = (
    (way.0.0, omega (arith, way.0.1, size)),
    way.1 ∙ sym (kept from has).next,
    leads_changed block rest last (among block (0, omega arith, refl)) (λ b has'. among b (Contains-cons block rest b has')) way.2,
  )

  last_among : (from : ℕ) (blocks : List ℕ) (last : ℕ) → Contains all from → AreAmong blocks all → Leads store from blocks last → Contains all last
  last_among from [] last has among way = subst (Contains all) (sym way) has
  last_among from (block ∷ rest) last has among way =
      last_among block rest last (among block (0, omega arith, refl)) (λ b has'. among b (Contains-cons block rest b has')) way.2

  pub run_changed : (key : ℕ) (own : List ℕ) → AreAmong own all → IsRun store key own → IsRun new key own
  run_changed key own among run =
      let among' : AreAmong (key ∷ run.rest) all = subst (λ bs. AreAmong bs all) run.is among in
      let first : Contains all key = among' key (0, omega arith, refl) in
      let others : AreAmong run.rest all = λ b has. among' b (Contains-cons key run.rest b has) in
      record {
        rest = run.rest;
        last = run.last;
        is = run.is;
        can_link = (run.can_link.0, omega (arith, run.can_link.1, size));
        leads = leads_changed key run.rest run.last first others run.leads;
        ends = (kept run.last (last_among key run.rest run.last first others run.leads)).next ∙ run.ends;
      }

  key_among : (key : ℕ) (own : List ℕ) → AreAmong own all → IsRun store key own → Contains all key
  key_among key own among run = among key (subst (λ bs. Contains bs key) (sym run.is) (0, omega arith, refl))

  directory_changed : (kind key : ℕ) (own : List ℕ) → AreAmong own all → IsDirectory store kind key own → IsDirectory new kind key own
  directory_changed kind key own among is =
      let at = kept key (key_among key own among is.run) in
      record {
        run = run_changed key own among is.run;
        kind_is = at.kind ∙ is.kind_is;
        sizes = (at.entry_size ∙ is.sizes.0, at.entry_count ∙ is.sizes.1);
      }

  entries_changed : (key : ℕ) (own : List ℕ) → AreAmong own all → entries_in new key own ≡ map change (entries_in store key own)
  entries_changed key [] among = refl
  entries_changed key (block ∷ rest) among =
      ap (λ es. es ++ entries_in new key rest) ((kept block (among block (0, omega arith, refl))).entries key)
      ∙ ap (λ es. map change (entries_of key block (unit_at store block)) ++ es) (entries_changed key rest (λ b has. among b (Contains-cons block rest b has)))
      ∙ sym (map-append change (entries_of key block (unit_at store block)) (entries_in store key rest))

  -- what an entry has in blocks of its own
  record HasChanged (entry : Entry) (own : List ℕ) : Type 0 where
    has : HasBlocks (is_directory (change entry)) new (key_of (change entry)) own
    entries : entries_in new (key_of (change entry)) own ≡ map change (entries_in store (key_of entry) own)

  has_changed : (entry : Entry) (own : List ℕ) → AreAmong own all → HasBlocks (is_directory entry) store (key_of entry) own → HasChanged entry own
  has_changed entry own among has = by_kind (is_directory entry) refl has
    where
      by_kind : (directory : Bool) → is_directory entry ≡ directory → HasBlocks directory store (key_of entry) own → HasChanged entry own
      by_kind true is directory =
          let same = keeps.same entry is in
          record {
            has = subst (λ e. HasBlocks (is_directory e) new (key_of e) own) (sym same)
                (subst (λ b. HasBlocks b new (key_of entry) own) (sym is) (directory_changed 0x0e (key_of entry) own among directory));
            entries = ap (λ e. entries_in new (key_of e) own) same ∙ entries_changed (key_of entry) own among;
          }
      by_kind false is none = record {
        has = subst (λ b. HasBlocks b new (key_of (change entry)) own) (sym (keeps.same_kind entry ∙ is)) none;
        entries = ap (entries_in new (key_of (change entry))) none ∙ sym (ap (λ bs. map change (entries_in store (key_of entry) bs)) none);
      }

  lists_changed : (from entries : List Entry) (blocks : List ℕ) (rest : List Entry) → AreAmong blocks all → Lists store from entries blocks rest
      → Lists new (map change from) (map change entries) blocks (map change rest)
  lists_changed from [] blocks rest among so = (ap (map change) so.0, so.1)
  lists_changed from (entry ∷ entries) blocks rest among so =
      let among' : AreAmong (so.1 ++ so.2) all = subst (λ bs. AreAmong bs all) so.4 among in
      let own = has_changed entry so.1 (λ b has. among' b (Contains-append_left so.1 so.2 b has)) so.5 in
      let next = lists_changed (entries_in store (key_of entry) so.1 ++ so.0) entries so.2 rest (λ b has. among' b (Contains-append_right so.1 so.2 b has)) so.6 in (
        map change so.0,
        so.1,
        so.2,
        ap (map change) so.3,
        so.4,
        own.has,
        subst (λ es. Lists new es (map change entries) so.2 (map change rest))
            (map-append change (entries_in store (key_of entry) so.1) so.0 ∙ ap (λ es. es ++ map change so.0) (sym own.entries)) next,
      )

  tree_changed : (entries : List Entry) → IsTree store all entries → IsTree new all (map change entries)
  tree_changed entries tree =
      let among' : AreAmong (tree.listed.own ++ tree.listed.later) all = subst (λ bs. AreAmong bs all) tree.listed.is (λ b has. has) in
      let in_own : AreAmong tree.listed.own all = λ b has. among' b (Contains-append_left tree.listed.own tree.listed.later b has) in
      record {
        listed = record {
          own = tree.listed.own;
          later = tree.listed.later;
          is = tree.listed.is;
          volume = directory_changed 0x0f 2 tree.listed.own in_own tree.listed.volume;
          lists = subst (λ es. Lists new es (map change entries) tree.listed.later []) (sym (entries_changed 2 tree.listed.own in_own))
              (lists_changed (entries_in store 2 tree.listed.own) entries tree.listed.later [] (λ b has. among' b (Contains-append_right tree.listed.own tree.listed.later b has)) tree.listed.lists);
        };
        once = tree.once;
      }

-- the new store describes the changed directories
pub describes_changed : (change : Entry → Entry) → KeepsDirectories change → (store new : List (List ℕ)) (tree : Tree) → length new ≡ length store
    → ((block : ℕ) → Contains tree.blocks block → IsKept change store new block) → slot_bytes (unit_at new 2) 0 ≡ slot_bytes (unit_at store 2) 0 → Describes store tree
    → Describes new (record tree { entries = map change tree.entries })
describes_changed change keeps store new tree size kept same_header described =
    let at = kept 2 (volume_inside store tree.blocks tree.entries described.tree) in
    record {
      geometry = record {
        kind_is = at.kind ∙ described.geometry.kind_is;
        sizes = (at.entry_size ∙ described.geometry.sizes.0, at.entry_count ∙ described.geometry.sizes.1);
        total = ap total_blocks same_header ∙ described.geometry.total ∙ sym size;
      };
      header = described.header ∙ sym same_header;
      tree = tree_changed change keeps store new tree.blocks size kept tree.entries described.tree;
      map = λ place from below.
          let is = described.map place from (omega (arith, below, ap map_blocks size)) in
          ((is.0.0, omega (arith, is.0.1, size)), is.1);
    }
