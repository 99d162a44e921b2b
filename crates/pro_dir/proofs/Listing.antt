-- One entry more is listed.
use Rattle.std.proofs.Common.{◌≡◌, ◌≢◌, ◌<◌, ◌+◌, ℕ, Bool, true, false, List, [], ◌∷◌, ◌++◌, length, drop, map, refl, sym, ◌∙◌, ap, subst, arith, inl, inr, ⊎_elim, append-nil}
use Rattle.std.specs.Prelude.{◌⊎◌, ◌==◌, Option, Some, None, flat_map, reverse, slice_get}
use Rattle.std.specs.List.{Contains, AllPairs}
use Rattle.std.proofs.lemmas.List.{reverse-append, reverse-reverse}
use Rattle.std.proofs.lemmas.List.Elements.{Contains-append_left, Contains-append_right, Contains-append_cases}
use Rattle.std.proofs.lemmas.Grind.{flat_map-append}
use Rattle.std.proofs.Math.Seq.{drop-append_seam}
use Rattle.std.proofs.lemmas.Bool.Decides.{nat_tests}
use Rattle.a2_device.specs.Device.{unit_at}
use Rattle.pro_dir.specs.declared.entry.Entry.{Entry}
use Rattle.pro_dir.specs.declared.reading.FreeSlot.{FreeSlot}
use Rattle.pro_dir.specs.declared.waiting.Waiting.{Waiting}
use Rattle.pro_dir.specs.Entry.{entries_in, entries_of, entry_at, free_slots_in, is_directory, is_listed, key_of}
use Rattle.pro_dir.specs.Tree.{HasBlocks, HasKind, HasSizes, IsListed, IsRun}
use Rattle.pro_dir.specs.lemmas.TreeLaws.{listed_more, not_twice, one_run}
use Rattle.pro_dir.specs.Walk.{IsKeyOf, IsListing, IsReadOut, IsTable, KeepsFree, all_waiting, entries_from, kept_for, kept_slots, left_behind, waiting_in, whole_block}
use Rattle.pro_dir.proofs.Slots.{from_first, from_listed, from_passed}
use Rattle.pro_dir.proofs.Table.{only}

-- what is kept for one directory is not for another
kept_for-other : (free : List FreeSlot) (key other : ℕ) (slot : Option (ℕ × ℕ)) → other ≢ key → kept_for (free ++ kept_slots key slot) other ≡ kept_for free other
kept_for-other [] key other None differ = refl
kept_for-other [] key other (Some slot) differ = by_test (key == other) refl
  where
    by_test : (b : Bool) → (key == other) ≡ b → kept_for (kept_slots key (Some slot)) other ≡ None
    by_test true is = absurd (differ (sym (grind (arith, nat_tests))))
    by_test false is = rw is refl
kept_for-other (f ∷ free) key other slot differ = by_test (f.directory == other) refl (kept_for-other free key other slot differ)
  where
    by_test : (b : Bool) → (f.directory == other) ≡ b → kept_for (free ++ kept_slots key slot) other ≡ kept_for free other
        → kept_for (f ∷ (free ++ kept_slots key slot)) other ≡ kept_for (f ∷ free) other
    by_test true is rest = rw is refl
    by_test false is rest = rw is rest

kept_for-own : (free : List FreeSlot) (key : ℕ) (slot : Option (ℕ × ℕ)) → ((f : FreeSlot) → Contains free f → f.directory ≢ key) → kept_for (free ++ kept_slots key slot) key ≡ slot
kept_for-own [] key None others = refl
kept_for-own [] key (Some slot) others = by_test (key == key) refl
  where
    by_test : (b : Bool) → (key == key) ≡ b → kept_for (kept_slots key (Some slot)) key ≡ Some slot
    by_test true is = rw is refl
    by_test false is = absurd (let differ : key ≢ key = grind (arith, nat_tests) in differ refl)
kept_for-own (f ∷ free) key slot others = by_test (f.directory == key) refl (kept_for-own free key slot (λ h has. others h (Contains-append_right (f ∷ []) free h has)))
  where
    by_test : (b : Bool) → (f.directory == key) ≡ b → kept_for (free ++ kept_slots key slot) key ≡ slot → kept_for (f ∷ (free ++ kept_slots key slot)) key ≡ slot
    by_test true is rest = absurd (others f (0, omega arith, refl) (grind (arith, nat_tests)))
    by_test false is rest = rw is rest

in_kept : (key : ℕ) (slot : Option (ℕ × ℕ)) (f : FreeSlot) → Contains (kept_slots key slot) f → f.directory ≡ key
in_kept key None f has = absurd (omega (arith, has.1))
in_kept key (Some slot) f has = ap (λ (s : FreeSlot). s.directory) (only _ f has)

key_first : (store : List (List ℕ)) (key : ℕ) (own : List ℕ) → IsRun store key own → Contains own key
key_first store key own run = subst (λ bs. Contains bs key) (sym run.is) (0, omega arith, refl)

-- a key of the entries with one more is the key of an entry before it, or its own
key_cases : (entries : List Entry) (entry : Entry) (key : ℕ) → IsKeyOf (entries ++ entry ∷ []) key → IsKeyOf entries key ⊎ ((is_directory entry ≡ true) × (key ≡ key_of entry))
key_cases entries entry key is = ⊎_elim (λ two. inl (inl two)) (λ named. ⊎_elim (λ old. inl (inr (named.0, old, named.2, named.3)))
    (λ new. let same = only entry named.0 new in inr (subst (λ e. is_directory e ≡ true) same named.2, sym named.3 ∙ ap key_of same))
    (Contains-append_cases entries (entry ∷ []) named.0 named.1)) is

-- a file is listed
pub file_listed : (store : List (List ℕ)) (blocks : List ℕ) (entries longer rest : List Entry) (entry : Entry) (free : List FreeSlot)
    → IsListing store blocks entries (entry ∷ rest) free → is_directory entry ≡ false → longer ≡ entries ++ entry ∷ [] → IsListing store blocks longer rest free
file_listed store blocks entries longer rest entry free so file longer_is = subst (λ es. IsListing store blocks es rest free) (sym longer_is) (record {
  listed = subst (λ bs. IsListed store bs (entries ++ entry ∷ []) rest) (append-nil blocks)
      (listed_more store entries blocks entry rest [] so.listed (subst (λ b. HasBlocks b store (key_of entry) []) (sym file) refl));
  keeps = record {
    named = so.keeps.named;
    keys = λ key is. ⊎_elim (so.keeps.keys key) (λ own. absurd (let directory = own.0 in cc)) (key_cases entries entry key is);
    first = λ key own is run. ⊎_elim (λ old. so.keeps.first key own old run) (λ new. absurd (let directory = new.0 in cc)) (key_cases entries entry key is);
  };
})

-- one directory more has its free slot kept
keeps_more : (store : List (List ℕ)) (places : ℕ) (met : List Bool) (blocks own : List ℕ) (entries : List Entry) (entry : Entry) (free : List FreeSlot) (slot : Option (ℕ × ℕ))
    → IsTable places met (blocks ++ own) → IsRun store (key_of entry) own → slot ≡ slice_get (free_slots_in store (key_of entry) own) 0
    → KeepsFree store blocks entries free → KeepsFree store (blocks ++ own) (entries ++ entry ∷ []) (free ++ kept_slots (key_of entry) slot)
keeps_more store places met blocks own entries entry free slot table run slot_is so = record {
  named = λ f has. ⊎_elim (λ old. before f.directory (so.named f old)) (λ new. subst (Contains (blocks ++ own)) (sym (in_kept (key_of entry) slot f new)) inside)
      (Contains-append_cases free (kept_slots (key_of entry) slot) f has);
  keys = λ key is. ⊎_elim (λ old. before key (so.keys key old)) (λ new. subst (Contains (blocks ++ own)) (sym new.1) inside) (key_cases entries entry key is);
  first = λ key others is other. ⊎_elim (λ old. kept_for-other free (key_of entry) key slot (λ same. not_met (subst (Contains blocks) same (so.keys key old))) ∙ so.first key others old other)
      (λ new. first_own key others new.1 other) (key_cases entries entry key is);
}
  where
    before : (block : ℕ) → Contains blocks block → Contains (blocks ++ own) block
    before block has = Contains-append_left blocks own block has

    inside : Contains (blocks ++ own) (key_of entry)
    inside = Contains-append_right blocks own (key_of entry) (key_first store (key_of entry) own run)

    not_met : Contains blocks (key_of entry) → ⊥
    not_met has = not_twice blocks run.rest (key_of entry) (subst (AllPairs (λ block later. block ≢ later)) (ap (λ bs. blocks ++ bs) run.is) table.once) has

    first_own : (key : ℕ) (others : List ℕ) → key ≡ key_of entry → IsRun store key others → kept_for (free ++ kept_slots (key_of entry) slot) key ≡ slice_get (free_slots_in store key others) 0
    first_own key others same other =
        let run' = subst (λ k. IsRun store k others) same other in
        ap (kept_for (free ++ kept_slots (key_of entry) slot)) same
        ∙ kept_for-own free (key_of entry) slot (λ f has is. not_met (subst (Contains blocks) is (so.named f has)))
        ∙ slot_is
        ∙ ap (λ bs. slice_get (free_slots_in store (key_of entry) bs) 0) (sym (one_run store (key_of entry) own others run run'))
        ∙ ap (λ k. slice_get (free_slots_in store k others) 0) (sym same)

-- the entries of whole blocks are those of the directory
in_whole_blocks : (store : List (List ℕ)) (key : ℕ) (blocks : List ℕ) → flat_map (waiting_in store) (map (whole_block key) blocks) ≡ entries_in store key blocks
in_whole_blocks store key [] = refl
in_whole_blocks store key (block ∷ blocks) =
    ap (λ es. es ++ flat_map (waiting_in store) (map (whole_block key) blocks)) (from_first key block (unit_at store block))
    ∙ ap (λ es. entries_of key block (unit_at store block) ++ es) (in_whole_blocks store key blocks)

-- what waits after the blocks of a directory are put behind what waited, the next of all last
pub blocks_wait : (store : List (List ℕ)) (pending waiting : List Waiting) (key : ℕ) (own : List ℕ) → waiting ≡ pending ++ reverse (map (whole_block key) own)
    → all_waiting store waiting ≡ entries_in store key own ++ all_waiting store pending
blocks_wait store pending waiting key own waiting_is =
    let blocks : List Waiting = map (whole_block key) own in
    ap (all_waiting store) waiting_is
    ∙ ap (flat_map (waiting_in store)) (reverse-append pending (reverse blocks) ∙ ap (λ ws. ws ++ reverse pending) (reverse-reverse blocks))
    ∙ flat_map-append (waiting_in store) blocks (reverse pending)
    ∙ ap (λ es. es ++ all_waiting store pending) (in_whole_blocks store key own)

-- and after slots are put behind it
pub slots_wait : (store : List (List ℕ)) (pending waiting : List Waiting) (slots : Waiting) → waiting ≡ pending ++ slots ∷ []
    → all_waiting store waiting ≡ waiting_in store slots ++ all_waiting store pending
slots_wait store pending waiting slots is = ap (all_waiting store) is ∙ ap (flat_map (waiting_in store)) (reverse-append pending (slots ∷ []))

-- a subdirectory is listed, and its blocks wait
pub directory_listed : (store : List (List ℕ)) (places : ℕ) (met : List Bool) (blocks blocks' : List ℕ) (entries longer : List Entry) (pending waiting : List Waiting) (entry : Entry)
    (free free' : List FreeSlot) (slot : Option (ℕ × ℕ)) (start : ℕ) → IsListing store blocks entries (entry ∷ all_waiting store pending) free → is_directory entry ≡ true → IsTable places met blocks'
    → IsReadOut store (key_of entry) blocks blocks' slot → HasKind 0x0e (unit_at store (key_of entry)) → HasSizes (unit_at store (key_of entry))
    → longer ≡ entries ++ entry ∷ [] → start ≡ length blocks → waiting ≡ pending ++ reverse (map (whole_block (key_of entry)) (drop start blocks')) → free' ≡ free ++ kept_slots (key_of entry) slot
    → IsListing store blocks' longer (all_waiting store waiting) free'
directory_listed store places met blocks blocks' entries longer pending waiting entry free free' slot start so directory table out kind_is sizes longer_is start_is waiting_is free_is =
    let table' = subst (IsTable places met) out.is table in
    let has = subst (λ b. HasBlocks b store (key_of entry) out.own) (sym directory) (record { run = out.run; kind_is = kind_is; sizes = sizes }) in
    let listed = listed_more store entries blocks entry (all_waiting store pending) out.own so.listed has in
    let keeps = keeps_more store places met blocks out.own entries entry free slot table' out.run out.first so.keeps in
    let own : drop start blocks' ≡ out.own = ap (λ n. drop n blocks') start_is ∙ ap (drop (length blocks)) out.is ∙ drop-append_seam blocks out.own in
    let rest = blocks_wait store pending waiting (key_of entry) out.own (waiting_is ∙ ap (λ bs. pending ++ reverse (map (whole_block (key_of entry)) bs)) own) in
    record {
      listed = subst (λ bs. IsListed store bs longer (all_waiting store waiting)) (sym out.is)
          (subst (λ es. IsListed store (blocks ++ out.own) es (all_waiting store waiting)) (sym longer_is)
          (subst (IsListed store (blocks ++ out.own) (entries ++ entry ∷ [])) (sym rest) listed));
      keeps = subst (λ bs. KeepsFree store bs longer free') (sym out.is)
          (subst (λ es. KeepsFree store (blocks ++ out.own) es free') (sym longer_is) (subst (KeepsFree store (blocks ++ out.own) (entries ++ entry ∷ [])) (sym free_is) keeps));
    }

-- the volume's directory is read, and its blocks wait
pub volume_listed : (store : List (List ℕ)) (blocks : List ℕ) (entries : List Entry) (pending waiting : List Waiting) (free free' : List FreeSlot) (slot : Option (ℕ × ℕ))
    → HasKind 0x0f (unit_at store 2) → HasSizes (unit_at store 2) → IsReadOut store 2 [] blocks slot → entries ≡ [] → pending ≡ [] → free ≡ []
    → waiting ≡ pending ++ reverse (map (whole_block 2) blocks) → free' ≡ free ++ kept_slots 2 slot → IsListing store blocks entries (all_waiting store waiting) free'
volume_listed store blocks entries pending waiting free free' slot kind_is sizes out no_entries no_pending no_free waiting_is free_is =
    let rest : all_waiting store waiting ≡ entries_in store 2 out.own =
    blocks_wait store pending waiting 2 out.own (waiting_is ∙ ap (λ bs. pending ++ reverse (map (whole_block 2) bs)) out.is)
    ∙ ap (λ ws. entries_in store 2 out.own ++ all_waiting store ws) no_pending ∙ append-nil (entries_in store 2 out.own) in
    let kept_is : free' ≡ kept_slots 2 slot = free_is ∙ ap (λ fs. fs ++ kept_slots 2 slot) no_free in
    let two : Contains blocks 2 = subst (λ bs. Contains bs 2) (sym out.is) (key_first store 2 out.own out.run) in
    subst (λ es. IsListing store blocks es (all_waiting store waiting) free') (sym no_entries) (record {
      listed = record {
        own = out.own;
        later = [];
        is = out.is ∙ sym (append-nil out.own);
        volume = record { run = out.run; kind_is = kind_is; sizes = sizes };
        lists = (sym rest, refl);
      };
      keeps = record {
        named = λ f has. subst (Contains blocks) (sym (in_kept 2 slot f (subst (λ fs. Contains fs f) kept_is has))) two;
        keys = λ key is. ⊎_elim (λ same. subst (Contains blocks) (sym same) two) (λ named. absurd (omega (arith, named.1.1))) is;
        first = λ key own is run. ⊎_elim
            (λ same. ap (λ fs. kept_for fs key) kept_is ∙ ap (kept_for (kept_slots 2 slot)) same ∙ kept_for-own [] 2 slot (λ f has. absurd (omega (arith, has.1))) ∙ out.first
            ∙ ap (λ bs. slice_get (free_slots_in store 2 bs) 0) (sym (one_run store 2 out.own own out.run (subst (λ k. IsRun store k own) same run)))
            ∙ ap (λ k. slice_get (free_slots_in store k own) 0) (sym same))
            (λ named. absurd (omega (arith, named.1.1)))
            is;
      };
    })

-- the slots that are taken up are the next
pub next_listed : (store : List (List ℕ)) (blocks : List ℕ) (entries : List Entry) (pending left : List Waiting) (slots : Waiting) (free : List FreeSlot)
    → IsListing store blocks entries (all_waiting store pending) free → pending ≡ left ++ slots ∷ [] → IsListing store blocks entries (waiting_in store slots ++ all_waiting store left) free
next_listed store blocks entries pending left slots free so is = subst (λ rest. IsListing store blocks entries rest free) (slots_wait store left pending slots is) so

-- the slots of a block are taken up one after the other: one without an entry, one of a file, and one of a subdirectory, where the listing stops
module _ (store : List (List ℕ)) (blocks : List ℕ) (listed : List Entry) (free : List FreeSlot) (directory place : ℕ) (unit : List ℕ) (slot : ℕ) (others : List Entry) (entry : Entry)
    (within : slot < 13) (is : entry ≡ entry_at directory place unit slot)
    (so : IsListing store blocks listed (entries_from directory place unit slot ++ others) free) where
  pub slot_passed : is_listed entry ≡ false → IsListing store blocks listed (entries_from directory place unit (slot + 1) ++ others) free
  slot_passed unused = subst (λ es. IsListing store blocks listed (es ++ others) free) (from_passed directory place unit slot within entry is unused) so

  next_is : is_listed entry ≡ true → IsListing store blocks listed (entry ∷ (entries_from directory place unit (slot + 1) ++ others)) free
  next_is used = subst (λ es. IsListing store blocks listed (es ++ others) free) (from_listed directory place unit slot within entry is used) so

  pub slot_listed : (longer : List Entry) → is_listed entry ≡ true → is_directory entry ≡ false → longer ≡ listed ++ entry ∷ []
      → IsListing store blocks longer (entries_from directory place unit (slot + 1) ++ others) free
  slot_listed longer used file longer_is = file_listed store blocks listed longer (entries_from directory place unit (slot + 1) ++ others) entry free (next_is used) file longer_is

  pub slot_stops : is_listed entry ≡ true → IsListing store blocks listed (entry ∷ (entries_from directory place unit (entry.slot + 1) ++ others)) free
  slot_stops used =
      let here : slot ≡ entry.slot = sym (ap (λ (e : Entry). e.slot) is) in
      subst (λ n. IsListing store blocks listed (entry ∷ (entries_from directory place unit (n + 1) ++ others)) free) here (next_is used)

-- the slots that were taken up are listed to their end, or up to an entry of a subdirectory with those behind it waiting again
module _ (store : List (List ℕ)) (blocks : List ℕ) (listed longer : List Entry) (pending : List Waiting) (free : List FreeSlot) (slots : Waiting) (unit : List ℕ) (found : Option Entry)
    (here : unit ≡ unit_at store slots.place)
    (step : (others : List Entry) → IsListing store blocks listed (entries_from slots.directory slots.place unit slots.slot ++ others) free
    → IsListing store blocks longer (left_behind slots unit found ++ others) free)
    (so : IsListing store blocks listed (waiting_in store slots ++ all_waiting store pending) free) where
  left : IsListing store blocks longer (left_behind slots unit found ++ all_waiting store pending) free
  left =
      step (all_waiting store pending)
      (subst (λ u. IsListing store blocks listed (entries_from slots.directory slots.place u slots.slot ++ all_waiting store pending) free) (sym here) so)

  pub all_listed : found ≡ None → IsListing store blocks longer (all_waiting store pending) free
  all_listed none = subst (λ f. IsListing store blocks longer (left_behind slots unit f ++ all_waiting store pending) free) none left

  pub listed_until : (entry : Entry) (waiting : List Waiting) → found ≡ Some entry → waiting ≡ pending ++ (record slots { slot = entry.slot + 1 }) ∷ []
      → IsListing store blocks longer (entry ∷ all_waiting store waiting) free
  listed_until entry waiting is waiting_is =
      let behind : Waiting = record slots { slot = entry.slot + 1 } in
      let rest : List Entry = all_waiting store pending in
      let one = subst (λ f. IsListing store blocks longer (left_behind slots unit f ++ rest) free) is left in
      let there = subst (λ u. IsListing store blocks longer (entry ∷ (entries_from slots.directory slots.place u (entry.slot + 1) ++ rest)) free) here one in
      subst (λ es. IsListing store blocks longer (entry ∷ es) free) (sym (slots_wait store pending waiting behind waiting_is)) there

pub same_listing : (store : List (List ℕ)) (blocks blocks' : List ℕ) (entries entries' rest : List Entry) (free free' : List FreeSlot) → blocks' ≡ blocks → entries' ≡ entries → free' ≡ free
    → IsListing store blocks entries rest free → IsListing store blocks' entries' rest free'
same_listing store blocks blocks' entries entries' rest free free' blocks_are entries_are free_are so =
    subst (λ bs. IsListing store bs entries' rest free') (sym blocks_are)
    (subst (λ es. IsListing store blocks es rest free') (sym entries_are) (subst (IsListing store blocks entries rest) (sym free_are) so))
