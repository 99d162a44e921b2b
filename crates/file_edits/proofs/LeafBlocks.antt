-- A slot of a directory block that gets the entry of an empty directory: the entries of its directory are one more.
use Rattle.std.specs.Prelude.{◌≡◌, ◌<◌, ◌≤◌, ◌==◌, not, ◌&&◌, ℕ, Bool, true, false, List, [], ◌∷◌, length, map, take, filter, All, Contains}
use Rattle.std.specs.Prelude.{suc, zero, ◌≢◌}
use Rattle.std.specs.List.{range_with_len}
use Rattle.std.proofs.Common.{refl, sym, ◌∙◌, ap, subst, arith, get_or}
use Rattle.std.proofs.lemmas.Bool.Decides.{nat_tests}
use Rattle.std.proofs.lemmas.List.{get_or_default}
use Rattle.std.proofs.lemmas.List.Elements.{All-nil, All-cons, All-head, All-tail}
use Rattle.std.proofs.lemmas.List.FromFn.{length-map-range_with_len, get_or-map-range_with_len}
use Rattle.std.proofs.lemmas.List.Kept.{AllPairs-cons}
use Rattle.a2_device.specs.Device.{unit_at}
use Rattle.pro_dir.specs.declared.entry.Entry.{Entry}
use Rattle.pro_dir.specs.Entry.{entry_at, entries_of, entries_in, is_listed, is_header, is_directory, key_of}
use Rattle.pro_dir.specs.Tree.{HasBlocks}
use Rattle.pro_format.specs.Pro.{no_slot}
use Rattle.pro_format.specs.lemmas.ProTree.{AreDistinct}
use Rattle.vol_laws.specs.Inserted.{insert_at, index_in_all}
use Rattle.vol_laws.proofs.Filling.{filter_filled, flat_filled, index_within, length-filter_take}
use Rattle.pro_format.specs.Filled.{filled_entry}
use Rattle.pro_format.specs.Slots.{IsNoHeader}
use Rattle.pro_format.proofs.Alike.{entries_elsewhere}
use Rattle.file_edits.specs.Leaf.{IsLeafEntered}

-- what holds of the elements of a list and of one more
pub All-insert : {X : Type 0} (P : X → Type 0) (i : ℕ) (x : X) (xs : List X) → P x → All P xs → All P (insert_at i x xs)
All-insert P zero x xs here all = All-cons P x xs here all
All-insert P (suc i) x [] here all = All-cons P x [] here (All-nil P)
All-insert P (suc i) x (y ∷ ys) here all = All-cons P y (insert_at i x ys) (All-head P y ys all) (All-insert P i x ys here (All-tail P y ys all))

-- blocks with one more that was not among them
pub distinct_insert : (i x : ℕ) (xs : List ℕ) → (Contains xs x → ⊥) → AreDistinct xs → AreDistinct (insert_at i x xs)
distinct_insert zero x xs none once =
    AllPairs-cons (λ block later. block ≢ later) x xs
    (λ k d within same. none (subst (Contains xs) (sym same) (k, within, get_or_default xs k (get_or xs k d) d within))) once
distinct_insert (suc i) x [] none once =
    AllPairs-cons (λ block later. block ≢ later) x [] (All-nil (λ later. x ≢ later)) once
distinct_insert (suc i) x (y ∷ ys) none once =
    AllPairs-cons (λ block later. block ≢ later) y (insert_at i x ys)
    (All-insert (λ later. y ≢ later) i x ys (λ same. none (0, omega arith, same))
    (λ k d within same. once 0 (suc k) d (omega arith) (omega (arith, within)) same))
    (distinct_insert i x ys (λ has. none (suc has.0, omega (arith, has.1), has.2))
    (λ j k d less within. once (suc j) (suc k) d (omega (arith, less)) (omega (arith, within))))

module _ (less more : List (List ℕ)) (place slot leaf : ℕ) (entered : IsLeafEntered less more place slot leaf) where
  abbrev x : ℕ → Entry
  x key = filled_entry more place slot key

  was_unused : (key : ℕ) → is_listed (entry_at key place (unit_at less place) slot) ≡ false
  was_unused key = ap (λ b. not b && not (is_header (entry_at key place (unit_at less place) slot))) entered.unused

  is_used : (key : ℕ) → IsNoHeader place slot key → is_listed (x key) ≡ true
  is_used key no_header = ap (λ b. not b && not (place == key && slot == 0)) entered.used ∙ by_tests (place == key) (slot == 0) refl refl
    where
      by_tests : (a b : Bool) → (place == key) ≡ a → (slot == 0) ≡ b → not (a && b) ≡ true
      by_tests true true is is' =
          let at : place ≡ key = grind (arith, nat_tests, is) in
          let first : slot ≡ 0 = grind (arith, nat_tests, is') in
          absurd (no_header first at)
      by_tests true false is is' = refl
      by_tests false b is is' = refl

  abbrev before : ℕ → ℕ
  before key = length (filter is_listed (take slot (map (entry_at key place (unit_at less place)) (range_with_len 0 13))))

  -- the entries of the block
  block_filled : (key : ℕ) → IsNoHeader place slot key → entries_of key place (unit_at more place) ≡ insert_at (before key) (x key) (entries_of key place (unit_at less place))
  unfolding entries_of
  block_filled key no_header =
      let old = map (entry_at key place (unit_at less place)) (range_with_len 0 13) in
      let new = map (entry_at key place (unit_at more place)) (range_with_len 0 13) in
      filter_filled is_listed slot no_slot old new (slots (unit_at more place) ∙ sym (slots (unit_at less place)))
      (omega (arith, slots (unit_at less place), entered.below))
      (λ j within differ.
      let low : j < 13 = omega (arith, within, slots (unit_at less place)) in
      slot_of (unit_at more place) j low
      ∙ ap (λ (bytes : List ℕ). record { directory = key; place = place; slot = j; bytes = bytes }) (entered.alike.others j differ)
      ∙ sym (slot_of (unit_at less place) j low))
      (ap is_listed (slot_of (unit_at less place) slot entered.below) ∙ was_unused key)
      (ap is_listed (slot_of (unit_at more place) slot entered.below) ∙ is_used key no_header)
      ∙ ap (λ e. insert_at (before key) e (filter is_listed old)) (slot_of (unit_at more place) slot entered.below)
    where
      slots : (unit : List ℕ) → length (map (entry_at key place unit) (range_with_len 0 13)) ≡ 13
      slots unit = length-map-range_with_len (entry_at key place unit) 0 13

      slot_of : (unit : List ℕ) (k : ℕ) → k < 13 → get_or (map (entry_at key place unit) (range_with_len 0 13)) k no_slot ≡ entry_at key place unit k
      slot_of unit k low = get_or-map-range_with_len (entry_at key place unit) 0 13 k k no_slot low (omega arith)

  before_within : (key : ℕ) → before key ≤ length (entries_of key place (unit_at less place))
  unfolding entries_of
  before_within key = length-filter_take is_listed slot (map (entry_at key place (unit_at less place)) (range_with_len 0 13))

  -- the entries of a directory that has the block
  pub record OneMoreIn (key : ℕ) (own : List ℕ) : Type 0 where
    pub at : ℕ
    pub within : at ≤ length (entries_in less key own)
    pub is : entries_in more key own ≡ insert_at at (x key) (entries_in less key own)

  pub directory_filled : (key : ℕ) (own : List ℕ) → IsNoHeader place slot key → AreDistinct own → Contains own place → OneMoreIn key own
  directory_filled key own no_header once has = record {
    at = index_in_all (λ p. entries_of key p (unit_at less p)) own place (before key);
    within = index_within (λ p. entries_of key p (unit_at less p)) place (before key) (before_within key) own has;
    is = flat_filled (λ p. entries_of key p (unit_at less p)) (λ p. entries_of key p (unit_at more p)) place (before key) (x key)
        (before_within key) (block_filled key no_header) (entries_elsewhere less more place slot entered.alike key) own once has;
  }

  -- the one block of the new entry, which has nothing inside
  pub x_blocks : (key : ℕ) → HasBlocks (is_directory (x key)) more (key_of (x key)) (leaf ∷ [])
  x_blocks key =
      subst (λ b. HasBlocks b more (key_of (x key)) (leaf ∷ [])) (sym entered.directory)
      (subst (λ k. HasBlocks true more k (leaf ∷ [])) (sym entered.key) entered.leaf_is.is)

  pub x_empty : (key : ℕ) → entries_in more (key_of (x key)) (leaf ∷ []) ≡ []
  x_empty key = ap (λ k. entries_in more k (leaf ∷ [])) entered.key ∙ entered.leaf_is.empty
