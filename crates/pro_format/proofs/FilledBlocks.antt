-- A slot of a directory block that is filled: the entries of its directory are one more.
use Rattle.std.specs.Prelude.{◌≡◌, ◌⊎◌, ◌<◌, ◌≤◌, ◌==◌, not, ◌&&◌, ℕ, zero, suc, Bool, true, false, List, [], ◌∷◌, ◌++◌, length, map, take, filter, Contains}
use Rattle.std.specs.List.{range_with_len}
use Rattle.std.proofs.Common.{refl, sym, ◌∙◌, ap, arith, get_or, inl, inr}
use Rattle.std.proofs.lemmas.Bool.Decides.{nat_tests}
use Rattle.std.proofs.lemmas.List.FromFn.{length-map-range_with_len, get_or-map-range_with_len}
use Rattle.a2_device.specs.Device.{unit_at}
use Rattle.pro_dir.specs.declared.entry.Entry.{Entry}
use Rattle.pro_dir.specs.Entry.{entry_at, entries_of, entries_in, is_listed, is_header, is_directory}
use Rattle.pro_format.specs.Pro.{no_slot}
use Rattle.pro_format.specs.lemmas.ProTree.{AreDistinct}
use Rattle.vol_laws.specs.Inserted.{insert_at}
use Rattle.pro_format.specs.Filled.{IsFilled, filled_entry}
use Rattle.vol_laws.specs.Inserted.{index_in_all}
use Rattle.pro_format.specs.Slots.{IsNoHeader}
use Rattle.pro_format.proofs.Alike.{entries_elsewhere}
use Rattle.vol_laws.proofs.Filling.{filter_filled, flat_filled, index_within, length-filter_take}

-- a block of the one list or of the other
pub in_own_or_later : (place : ℕ) (own later : List ℕ) → Contains (own ++ later) place → Contains own place ⊎ Contains later place
in_own_or_later place [] later has = inr has
in_own_or_later place (block ∷ own) later (zero, within, same) = inl (0, omega arith, same)
in_own_or_later place (block ∷ own) later (suc k, within, same) = elim (in_own_or_later place own later (k, omega (arith, within), same)) [
  | inl has ↦ inl (suc has.0, omega (arith, has.1), has.2)
  | inr has ↦ inr has
]

module _ (less more : List (List ℕ)) (place slot : ℕ) (filled : IsFilled less more place slot) where
  abbrev pub x : ℕ → Entry
  x key = filled_entry more place slot key

  -- the entries of the block
  was_unused : (key : ℕ) → is_listed (entry_at key place (unit_at less place) slot) ≡ false
  was_unused key = ap (λ b. not b && not (is_header (entry_at key place (unit_at less place) slot))) filled.unused

  is_used : (key : ℕ) → IsNoHeader place slot key → is_listed (x key) ≡ true
  is_used key no_header = ap (λ b. not b && not (place == key && slot == 0)) filled.used ∙ by_tests (place == key) (slot == 0) refl refl
    where
      by_tests : (a b : Bool) → (place == key) ≡ a → (slot == 0) ≡ b → not (a && b) ≡ true
      by_tests true true is is' =
          let at : place ≡ key = grind (arith, nat_tests, is) in
          let first : slot ≡ 0 = grind (arith, nat_tests, is') in
          absurd (no_header first at)
      by_tests true false is is' = refl
      by_tests false b is is' = refl

  abbrev pub before : ℕ → ℕ
  before key = length (filter is_listed (take slot (map (entry_at key place (unit_at less place)) (range_with_len 0 13))))

  pub block_filled : (key : ℕ) → IsNoHeader place slot key → entries_of key place (unit_at more place) ≡ insert_at (before key) (x key) (entries_of key place (unit_at less place))
  unfolding entries_of
  block_filled key no_header =
      let old = map (entry_at key place (unit_at less place)) (range_with_len 0 13) in
      let new = map (entry_at key place (unit_at more place)) (range_with_len 0 13) in
      filter_filled is_listed slot no_slot old new (slots (unit_at more place) ∙ sym (slots (unit_at less place)))
      (omega (arith, slots (unit_at less place), filled.below))
      (λ j within differ.
      let low : j < 13 = omega (arith, within, slots (unit_at less place)) in
      slot_of (unit_at more place) j low
      ∙ ap (λ (bytes : List ℕ). record { directory = key; place = place; slot = j; bytes = bytes }) (filled.alike.others j differ)
      ∙ sym (slot_of (unit_at less place) j low))
      (ap is_listed (slot_of (unit_at less place) slot filled.below) ∙ was_unused key)
      (ap is_listed (slot_of (unit_at more place) slot filled.below) ∙ is_used key no_header)
      ∙ ap (λ e. insert_at (before key) e (filter is_listed old)) (slot_of (unit_at more place) slot filled.below)
    where
      slots : (unit : List ℕ) → length (map (entry_at key place unit) (range_with_len 0 13)) ≡ 13
      slots unit = length-map-range_with_len (entry_at key place unit) 0 13

      slot_of : (unit : List ℕ) (k : ℕ) → k < 13 → get_or (map (entry_at key place unit) (range_with_len 0 13)) k no_slot ≡ entry_at key place unit k
      slot_of unit k low = get_or-map-range_with_len (entry_at key place unit) 0 13 k k no_slot low (omega arith)

  pub before_within : (key : ℕ) → before key ≤ length (entries_of key place (unit_at less place))
  unfolding entries_of
  before_within key = length-filter_take is_listed slot (map (entry_at key place (unit_at less place)) (range_with_len 0 13))

  -- the entries of a directory that has the block
  pub record OneMoreIn (key : ℕ) (own : List ℕ) : Type 0 where
    pub at : ℕ
    pub within : at ≤ length (entries_in less key own)
    pub is : entries_in more key own ≡ insert_at at (x key) (entries_in less key own)

  pub directory_filled : (key : ℕ) (own : List ℕ) → IsNoHeader place slot key → AreDistinct own → Contains own place → OneMoreIn key own
  directory_filled key own no_header once has = record {
    at = index_in_all (λ p. entries_of key p (unit_at less p)) own place (before key);
    within = index_within (λ p. entries_of key p (unit_at less p)) place (before key) (before_within key) own has;
    is = flat_filled (λ p. entries_of key p (unit_at less p)) (λ p. entries_of key p (unit_at more p)) place (before key) (x key)
        (before_within key) (block_filled key no_header) (entries_elsewhere less more place slot filled.alike key) own once has;
  }

  pub x_file : (key : ℕ) → is_directory (x key) ≡ false
  x_file key = filled.file
