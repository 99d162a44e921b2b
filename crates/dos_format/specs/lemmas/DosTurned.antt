-- A catalog in which one entry got another pointer.
use Rattle.std.specs.Prelude.{◌≡◌, ◌≢◌, ◌<◌, ◌⊎◌, ℕ, ◌==◌, ◌&&◌, if◌then◌else◌, suc, true, false, Bool, List, [], ◌∷◌, ◌++◌, length, map, filter, slice_set, All, AllPairs}
use Rattle.std.specs.List.{range_with_len}
use Rattle.std.proofs.Common.{refl, sym, ◌∙◌, ap, arith, subst, get_or, inl, inr, cond}
use Rattle.std.proofs.lemmas.Bool.{cases_eq, cases_lt}
use Rattle.std.proofs.lemmas.Bool.Decides.{nat_tests}
use Rattle.std.proofs.lemmas.List.{ext_get_or, get_or-map, length-map, length-set, get_or-set_same, get_or-set_other, map-append}
use Rattle.a2_device.specs.Device.{unit_at}
use Rattle.dos_catalog.specs.declared.entry.Entry.{Entry}
use Rattle.dos_catalog.specs.Entry.{entry_at, is_in_use, entries_of, entries_in}
use Rattle.dos_catalog.proofs.OnTrack.{each_slot}
use Rattle.dos_format.specs.lemmas.DosEntries.{AreApart}

-- an entry, or what was written where it stands in this slot of this sector
abbrev pub with_entry : ℕ → ℕ → Entry → Entry → Entry
with_entry place slot written entry = if entry.place == place && entry.slot == slot then written else entry

module _ (place slot : ℕ) (written : Entry) where
  pub with_entry-here : (entry : Entry) → entry.place ≡ place → entry.slot ≡ slot → with_entry place slot written entry ≡ written
  with_entry-here entry at in' = by_tests (entry.place == place) (entry.slot == slot) refl refl
    where
      by_tests : (a b : Bool) → (entry.place == place) ≡ a → (entry.slot == slot) ≡ b → (if a && b then written else entry) ≡ written
      by_tests true true is is' = refl
      by_tests true false is is' = let differ : entry.slot ≢ slot = grind (arith, nat_tests) in absurd (differ in')
      by_tests false b is is' = let differ : entry.place ≢ place = grind (arith, nat_tests) in absurd (differ at)

  pub with_entry-other : (entry : Entry) → (entry.place ≡ place → entry.slot ≡ slot → ⊥) → with_entry place slot written entry ≡ entry
  with_entry-other entry apart = by_tests (entry.place == place) (entry.slot == slot) refl refl
    where
      by_tests : (a b : Bool) → (entry.place == place) ≡ a → (entry.slot == slot) ≡ b → (if a && b then written else entry) ≡ entry
      by_tests true true is is' = absurd (apart (grind (arith, nat_tests, is)) (grind (arith, nat_tests, is')))
      by_tests true false is is' = refl
      by_tests false b is is' = refl

-- entries that pass the same test before and after a change of some
changed_entries : (p : Entry → Bool) (old new : ℕ → Entry) (change : Entry → Entry) (slots : List ℕ) → ((slot : ℕ) → p (new slot) ≡ p (old slot))
    → ((slot : ℕ) → new slot ≡ change (old slot)) → filter p (map new slots) ≡ map change (filter p (map old slots))
changed_entries p old new change [] same is = refl
changed_entries p old new change (slot ∷ slots) same is = by_test (changed_entries p old new change slots same is) (p (old slot)) refl
  where
    by_test : filter p (map new slots) ≡ map change (filter p (map old slots)) → (b : Bool) → p (old slot) ≡ b
        → filter p (map new (slot ∷ slots)) ≡ map change (filter p (map old (slot ∷ slots)))
    by_test rest true passes = ap (λ b. cond b (new slot ∷ filter p (map new slots)) (filter p (map new slots))) (same slot ∙ passes)
        ∙ ap (λ e. e ∷ filter p (map new slots)) (is slot)
        ∙ ap (λ es. change (old slot) ∷ es) rest
        ∙ sym (ap (λ b. map change (cond b (old slot ∷ filter p (map old slots)) (filter p (map old slots)))) passes)
    by_test rest false fails = ap (λ b. cond b (new slot ∷ filter p (map new slots)) (filter p (map new slots))) (same slot ∙ fails)
        ∙ rest
        ∙ sym (ap (λ b. map change (cond b (old slot ∷ filter p (map old slots)) (filter p (map old slots)))) fails)

unchanged : (change : Entry → Entry) (entries : List Entry) → All (λ entry. change entry ≡ entry) entries → map change entries ≡ entries
unchanged change [] same = refl
unchanged change (entry ∷ entries) same =
    ap (λ e. e ∷ map change entries) (same 0 entry (omega arith))
    ∙ ap (λ es. entry ∷ es) (unchanged change entries (λ k d within. same (suc k) d (omega (arith, within))))

-- One slot of one sector is written: that slot has an entry in use before and after, and the sector's other slots are as they were.
module _ (store : List (List ℕ)) (place slot : ℕ) (unit : List ℕ) (inside : place < length store)
    (was_in_use : is_in_use (entry_at place (unit_at store place) slot) ≡ true) (stays_in_use : is_in_use (entry_at place unit slot) ≡ true)
    (others : (other : ℕ) → other ≢ slot → entry_at place unit other ≡ entry_at place (unit_at store place) other) where
  sector_turned : entries_of place unit ≡ map (with_entry place slot (entry_at place unit slot)) (entries_of place (unit_at store place))
  sector_turned =
      changed_entries is_in_use (entry_at place (unit_at store place)) (entry_at place unit) (with_entry place slot (entry_at place unit slot)) (range_with_len 0 7)
      (λ other. elim (cases_eq other slot) [
        | inl same ↦ ap (λ s. is_in_use (entry_at place unit s)) same ∙ stays_in_use ∙ sym was_in_use ∙ ap (λ s. is_in_use (entry_at place (unit_at store place) s)) (sym same)
        | inr differ ↦ ap is_in_use (others other differ)
      ])
      (λ other. elim (cases_eq other slot) [
        | inl same ↦ ap (entry_at place unit) same ∙ sym (with_entry-here place slot (entry_at place unit slot) (entry_at place (unit_at store place) other) refl same)
        | inr differ ↦ others other differ ∙ sym (with_entry-other place slot (entry_at place unit slot) (entry_at place (unit_at store place) other) (λ at in'. differ in'))
      ])

  sector_kept : (other : ℕ) → other ≢ place → entries_of other (unit_at store other) ≡ map (with_entry place slot (entry_at place unit slot)) (entries_of other (unit_at store other))
  sector_kept other apart = sym (unchanged (with_entry place slot (entry_at place unit slot)) (entries_of other (unit_at store other))
      (each_slot other (unit_at store other) (λ entry. with_entry place slot (entry_at place unit slot) entry ≡ entry)
      (λ s low. with_entry-other place slot (entry_at place unit slot) (entry_at other (unit_at store other) s) (λ at in'. apart at))))

  pub entries_turned : (sectors : List ℕ) → entries_in (slice_set store place unit) sectors ≡ map (with_entry place slot (entry_at place unit slot)) (entries_in store sectors)
  entries_turned [] = refl
  entries_turned (sector ∷ rest) =
      ap (λ es. es ++ entries_in (slice_set store place unit) rest) (of_sector (cases_eq sector place))
      ∙ ap (λ es. map (with_entry place slot (entry_at place unit slot)) (entries_of sector (unit_at store sector)) ++ es) (entries_turned rest)
      ∙ sym (map-append (with_entry place slot (entry_at place unit slot)) (entries_of sector (unit_at store sector)) (entries_in store rest))
    where
      of_sector : (sector ≡ place) ⊎ (sector ≢ place)
          → entries_of sector (unit_at (slice_set store place unit) sector) ≡ map (with_entry place slot (entry_at place unit slot)) (entries_of sector (unit_at store sector))
      of_sector (inl same) = subst
          (λ s. entries_of s (unit_at (slice_set store place unit) s) ≡ map (with_entry place slot (entry_at place unit slot)) (entries_of s (unit_at store s)))
          (sym same) (ap (entries_of place) (get_or-set_same store place unit [] inside) ∙ sector_turned)
      of_sector (inr differ) = ap (entries_of sector) (get_or-set_other store place sector unit [] differ) ∙ sector_kept sector differ

-- of entries that stand apart, what is written in the slot of one changes that one
pub one_turned : (entries : List Entry) (file : ℕ) (d written : Entry) → AllPairs AreApart entries → file < length entries
    → map (with_entry (get_or entries file d).place (get_or entries file d).slot written) entries ≡ slice_set entries file written
one_turned entries file d written apart inside =
    ext_get_or d (map (with_entry (get_or entries file d).place (get_or entries file d).slot written) entries) (slice_set entries file written)
    (length-map entries (with_entry (get_or entries file d).place (get_or entries file d).slot written) ∙ sym (length-set entries file written))
    (λ k within. at k (omega (arith, within, length-map entries (with_entry (get_or entries file d).place (get_or entries file d).slot written))))
  where
    differ : (k : ℕ) → k < length entries → k ≢ file
        → (get_or entries k d).place ≡ (get_or entries file d).place → (get_or entries k d).slot ≡ (get_or entries file d).slot → ⊥
    differ k within other place slot = elim (cases_lt k file) [
      | inl before ↦ apart k file d before inside place slot
      | inr not_before ↦ apart file k d (omega arith) within (sym place) (sym slot)
    ]

    at : (k : ℕ) → k < length entries
        → get_or (map (with_entry (get_or entries file d).place (get_or entries file d).slot written) entries) k d ≡ get_or (slice_set entries file written) k d
    at k within =
        get_or-map (with_entry (get_or entries file d).place (get_or entries file d).slot written) entries k d d within
        ∙ elim (cases_eq k file) [
          | inl same ↦
              with_entry-here (get_or entries file d).place (get_or entries file d).slot written (get_or entries k d)
              (ap (λ n. (get_or entries n d).place) same) (ap (λ n. (get_or entries n d).slot) same)
              ∙ sym (ap (λ n. get_or (slice_set entries file written) n d) same ∙ get_or-set_same entries file written d inside)
          | inr other ↦
              with_entry-other (get_or entries file d).place (get_or entries file d).slot written (get_or entries k d) (differ k within other)
              ∙ sym (get_or-set_other entries file k written d other)
        ]
