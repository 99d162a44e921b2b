-- Each entry stands in a slot of the directory that it names as its own, and not in a header.
use Rattle.std.specs.Prelude.{◌≡◌, ℕ, ◌==◌, not, ◌&&◌, suc, Bool, true, false, List, [], ◌∷◌, ◌++◌, All, Contains}
use Rattle.std.proofs.Common.{refl, sym, subst, arith, inl, inr}
use Rattle.std.proofs.lemmas.Bool.Decides.{nat_tests}
use Rattle.std.proofs.lemmas.List.Elements.{All-nil, All-cons, All-head, All-tail, All-append}
use Rattle.a2_device.specs.Device.{unit_at}
use Rattle.pro_dir.specs.declared.entry.Entry.{Entry}
use Rattle.pro_dir.specs.Entry.{entry_at, entries_in, is_directory, is_listed, key_of, slot_bytes, storage_of}
use Rattle.pro_dir.specs.Tree.{IsRun, HasBlocks, Lists, IsTree}
use Rattle.pro_dir.specs.Walk.{IsKeyOf}
use Rattle.pro_format.specs.lemmas.ProTree.{each_entry}
use Rattle.pro_format.specs.Slots.{IsNoHeader, IsSlotOf}

-- what is listed is no header
listed_no_header : (key place slot : ℕ) (unit : List ℕ) → is_listed (entry_at key place unit slot) ≡ true → IsNoHeader place slot key
listed_no_header key place slot unit listed first same = by_tests (storage_of (slot_bytes unit slot) == 0) (place == key) (slot == 0) refl refl listed
  where
    by_tests : (none here zeroth : Bool) → (place == key) ≡ here → (slot == 0) ≡ zeroth → (not none && not (here && zeroth)) ≡ true → ⊥
    by_tests none false zeroth is is' listed' = grind (arith, nat_tests, is, same)
    by_tests none true false is is' listed' = grind (arith, nat_tests, is', first)
    by_tests true true true is is' listed' = cc
    by_tests false true true is is' listed' = cc

listed_used : (key place slot : ℕ) (unit : List ℕ) → is_listed (entry_at key place unit slot) ≡ true → (storage_of (slot_bytes unit slot) == 0) ≡ false
listed_used key place slot unit listed = by_test (storage_of (slot_bytes unit slot) == 0) listed
  where
    by_test : (none : Bool) → (not none && not (place == key && slot == 0)) ≡ true → none ≡ false
    by_test false passes = refl
    by_test true passes = absurd (cc)

-- an entry's slot is one of a directory that some entries name, and in use
pub record HasSlot (store : List (List ℕ)) (all : List Entry) (entry : Entry) : Type 0 where
  pub used : (storage_of entry.bytes == 0) ≡ false
  pub key : IsKeyOf all entry.directory
  pub is : IsSlotOf store entry.directory entry.place entry.slot

module _ (store : List (List ℕ)) (whole : List Entry) where
  -- of one directory
  in_directory : (key : ℕ) (own : List ℕ) → IsKeyOf whole key → IsRun store key own → All (HasSlot store whole) (entries_in store key own)
  in_directory key own is_key run = each_entry (HasSlot store whole) store key own (λ place slot has low used. record {
    used = listed_used key place slot (unit_at store place) used;
    key = is_key;
    is = record {
      own = own;
      run = run;
      has = has;
      below = low;
      no_header = listed_no_header key place slot (unit_at store place) used;
    };
  })

  -- what a subdirectory's entry, or a file's, has inside
  inside : (directory : Bool) (entry : Entry) (own : List ℕ) → Contains whole entry → is_directory entry ≡ directory → HasBlocks directory store (key_of entry) own
      → All (HasSlot store whole) (entries_in store (key_of entry) own)
  inside true entry own has is blocks = in_directory (key_of entry) own (inr (entry, has, is, refl)) blocks.run
  inside false entry own has is none = subst (λ bs. All (HasSlot store whole) (entries_in store (key_of entry) bs)) (sym none) (All-nil (HasSlot store whole))

  each_inside : (from all : List Entry) (blocks : List ℕ) (rest : List Entry) → ((entry : Entry) → Contains all entry → Contains whole entry) → Lists store from all blocks rest
      → All (HasSlot store whole) from → All (HasSlot store whole) all
  each_inside from [] blocks rest among so before = All-nil (HasSlot store whole)
  each_inside from (entry ∷ all) blocks rest among so before =
      let both = subst (All (HasSlot store whole)) so.3 before in
      All-cons (HasSlot store whole) entry all (All-head (HasSlot store whole) entry so.0 both)
      (each_inside (entries_in store (key_of entry) so.1 ++ so.0) all so.2 rest (λ e has. among e (suc has.0, omega (arith, has.1), has.2)) so.6
      (All-append (HasSlot store whole) (entries_in store (key_of entry) so.1) so.0
      (inside (is_directory entry) entry so.1 (among entry (0, omega arith, refl)) refl so.5)
      (All-tail (HasSlot store whole) entry so.0 both)))

pub each_slot_of : (store : List (List ℕ)) (blocks : List ℕ) (all : List Entry) → IsTree store blocks all → All (HasSlot store all) all
each_slot_of store blocks all tree =
    each_inside store all (entries_in store 2 tree.listed.own) all tree.listed.later [] (λ entry has. has) tree.listed.lists
    (in_directory store all 2 tree.listed.own (inl refl) tree.listed.volume.run)
