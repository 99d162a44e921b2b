-- What is true of the directories that a store describes.
use Rattle.std.specs.Prelude.{◌≡◌, ◌≢◌, ◌<◌, ◌≤◌, ℕ, ◌*◌, ◌==◌, not, ◌&&◌, Bool, true, false, List, [], ◌++◌, length, All, AllPairs, Contains}
use Rattle.std.proofs.Common.{refl, sym, ◌∙◌, ap, arith, subst, get_or, length-append}
use Rattle.std.proofs.lemmas.Bool.Decides.{nat_tests}
use Rattle.std.proofs.lemmas.List.{get_or_default}
use Rattle.std.proofs.lemmas.List.Elements.{All-append, Contains-append_left, Contains-append_right}
use Rattle.vol_layout.proofs.Lists.{length_distinct}
use Rattle.a2_device.specs.Device.{unit_at}
use Rattle.pro_dir.specs.declared.entry.Entry.{Entry}
use Rattle.pro_dir.specs.Entry.{entry_at, entries_in, is_listed, slot_bytes, storage_of}
use Rattle.pro_dir.specs.Tree.{CanLink, IsTree}
use Rattle.pro_dir.specs.Volume.{Directory as Tree, Describes, map_blocks, total_blocks}
use Rattle.pro_format.specs.Pro.{TakesBlocks, pro_system}
use Rattle.pro_format.specs.lemmas.ProSystem.{length-system, system-at}
use Rattle.pro_format.specs.lemmas.ProTree.{AreApart, AreDistinct, IsOutside, each_entry, each_listed, run_can, listed_can, few_in, few_listed, distinct_left, distinct_right, in_both, entries_apart, listed_apart}
use Rattle.pro_format.specs.Sound.{IsSound}

-- an entry is what is stored in its slot, which is not that of the volume's header
pub record IsStored (store : List (List ℕ)) (blocks : List ℕ) (entry : Entry) : Type 0 where
  pub has : Contains blocks entry.place
  pub slot : entry.slot < 13
  pub bytes : entry.bytes ≡ slot_bytes (unit_at store entry.place) entry.slot
  pub no_header : entry.place ≡ 2 → entry.slot ≡ 0 → ⊥

-- the first slot of a key block is not listed
header_not_listed : (directory place slot : ℕ) (unit : List ℕ) → is_listed (entry_at directory place unit slot) ≡ true → place ≡ directory → slot ≡ 0 → ⊥
header_not_listed directory place slot unit listed same first = by_tests (storage_of (slot_bytes unit slot) == 0) (place == directory) (slot == 0) refl refl listed
  where
    by_tests : (none here zero : Bool) → (place == directory) ≡ here → (slot == 0) ≡ zero → (not none && not (here && zero)) ≡ true → ⊥
    by_tests none false zero is is' listed' = let differ : place ≢ directory = grind (arith, nat_tests, is) in differ same
    by_tests none true false is is' listed' = let differ : slot ≢ 0 = grind (arith, nat_tests, is') in differ first
    by_tests true true true is is' listed' = cc
    by_tests false true true is is' listed' = cc

module _ (store : List (List ℕ)) (blocks : List ℕ) (entries : List Entry) (tree : IsTree store blocks entries) where
  abbrev own : List ℕ
  own = tree.listed.own

  abbrev later : List ℕ
  later = tree.listed.later

  once : AreDistinct (own ++ later)
  once = subst AreDistinct tree.listed.is tree.once

  in_own : (place : ℕ) → Contains own place → Contains blocks place
  in_own place has = subst (λ bs. Contains bs place) (sym tree.listed.is) (Contains-append_left own later place has)

  in_later : (place : ℕ) → Contains later place → Contains blocks place
  in_later place has = subst (λ bs. Contains bs place) (sym tree.listed.is) (Contains-append_right own later place has)

  key_inside : Contains own 2
  key_inside = subst (λ bs. Contains bs 2) (sym tree.listed.volume.run.is) (0, omega arith, refl)

  pub volume_inside : Contains blocks 2
  volume_inside = in_own 2 key_inside

  pub blocks_can : All (CanLink store) blocks
  blocks_can = subst (All (CanLink store)) (sym tree.listed.is)
      (All-append (CanLink store) own later (run_can store 2 own tree.listed.volume.run) (listed_can store (entries_in store 2 own) entries later [] tree.listed.lists))

  pub block_below : (place : ℕ) → Contains blocks place → (2 ≤ place) × (place < length store)
  block_below place has = subst (CanLink store) (get_or_default blocks has.0 0 place has.1 ∙ has.2) (blocks_can has.0 0 has.1)

  pub each_stored : All (IsStored store blocks) entries
  each_stored = each_listed (IsStored store blocks) store (entries_in store 2 own) entries later [] tree.listed.lists
      (each_entry (IsStored store blocks) store 2 own (λ place slot has low used. record {
        has = in_own place has;
        slot = low;
        bytes = refl;
        no_header = λ same first. header_not_listed 2 place slot (unit_at store place) used same first;
      }))
      (λ directory place slot has low used. record {
        has = in_later place has;
        slot = low;
        bytes = refl;
        no_header = λ same first. in_both own later 2 once key_inside (subst (Contains later) same has);
      })

  pub all_apart : AllPairs AreApart entries
  all_apart = listed_apart store (entries_in store 2 own) entries later [] tree.listed.lists (distinct_right own later once)
      (entries_apart store 2 own (distinct_left own later once))
      (each_entry (IsOutside later) store 2 own (λ place slot has low used has'. in_both own later place once has has'))

  pub few_entries : length entries ≤ 13 * length store
  few_entries = omega (
    arith,
    few_listed store (entries_in store 2 own) entries later [] tree.listed.lists,
    few_in store 2 own,
    ap length tree.listed.is,
    length-append own later,
    length_distinct (length store) blocks tree.once (λ k d within. (blocks_can k d within).1),
  )

-- so the volume is sound
pub described_sound : (reserved : List Bool) (store : List (List ℕ)) (tree : Tree) → TakesBlocks (length store) → Describes store tree → IsSound tree (pro_system reserved tree)
described_sound reserved store tree takes described =
    let total : total_blocks tree.header ≡ length store = ap total_blocks described.header ∙ described.geometry.total in
    let stored = each_stored store tree.blocks tree.entries described.tree in
    record {
      places = omega (arith, total, takes.1);
      blocks = λ k d within. omega (arith, total, (block_below store tree.blocks tree.entries described.tree (get_or tree.entries k d).place (stored k d within).has).1);
      slots = λ k d within. (stored k d within).slot;
      few = omega (arith, few_entries store tree.blocks tree.entries described.tree, takes.1);
      map = λ place from below. omega (arith, total, (described.map place from (omega (arith, below, ap map_blocks total))).0.1);
      size = length-system reserved tree;
      first = system-at reserved tree 0 (omega (arith, total, takes.0));
    }
