-- Entries of one sector more are on the track.
use Rattle.std.proofs.Common.{◌≡◌, ◌<◌, ◌≤◌, ◌+◌, ◌*◌, ℕ, Bool, true, false, List, [], ◌∷◌, ◌++◌, cond, length, length-append, refl, sym, subst, arith, count_by, map, replicate}
use Rattle.std.specs.Prelude.{Option, Some, None, IfSome, find, not, option_map}
use Rattle.std.specs.Option.{option_or}
use Rattle.std.specs.List.{All, range_with_len}
use Rattle.std.proofs.lemmas.List.Elements.{All-head, All-tail, All-filter, All-append}
use Rattle.std.proofs.lemmas.List.Filters.{length-filter_both}
use Rattle.std.proofs.lemmas.List.FromFn.{length-range_with_len, get_or-range_with_len, length-map-range_with_len, get_or-map-range_with_len}
use Rattle.dos_catalog.specs.declared.entry.Entry.{Entry}
use Rattle.dos_catalog.specs.Entry.{entry_at, is_in_use, entries_of}
use Rattle.dos_catalog.specs.Found.{IsSlotOnTrack}
use Rattle.dos_catalog.specs.Walk.{first_free_of}

-- entries so far, of the sectors that are met, each of which has seven slots
pub record AreSoFar (met : List Bool) (entries : List Entry) : Type 0 where
  pub places : All (λ (entry : Entry). (272 < entry.place) × (entry.place < 288)) entries
  pub slots : All (λ (entry : Entry). entry.slot < 7) entries
  pub few : length entries + 7 * count_by not met ≤ 112

module _ (place : ℕ) (unit : List ℕ) where
  pub each_slot : (P : Entry → Type 0) → ((slot : ℕ) → slot < 7 → P (entry_at place unit slot)) → All P (entries_of place unit)
  each_slot P each = All-filter is_in_use P (map (entry_at place unit) (range_with_len 0 7)) (λ k d within.
      let inside : k < 7 = omega (arith, within, length-map-range_with_len (entry_at place unit) 0 7) in
      subst P (sym (get_or-map-range_with_len (entry_at place unit) 0 7 k k d inside (omega arith))) (each k inside))

  pub at_most_seven : length (entries_of place unit) ≤ 7
  at_most_seven = omega (
    arith,
    length-filter_both is_in_use (λ e. not (is_in_use e)) (λ e. refl) (map (entry_at place unit) (range_with_len 0 7)),
    length-map-range_with_len (entry_at place unit) 0 7,
  )

-- one sector more
pub so_far : (met now : List Bool) (old new : List Entry) (place : ℕ) (unit : List ℕ) → (272 < place) × (place < 288)
    → count_by not now + 1 ≡ count_by not met → new ≡ old ++ entries_of place unit → AreSoFar met old → AreSoFar now new
so_far met now old new place unit on_track fewer is before = subst (AreSoFar now) (sym is) (record {
  places = All-append (λ (e : Entry). (272 < e.place) × (e.place < 288)) old (entries_of place unit) before.places
      (each_slot place unit (λ (e : Entry). (272 < e.place) × (e.place < 288)) (λ slot inside. on_track));
  slots = All-append (λ (e : Entry). e.slot < 7) old (entries_of place unit) before.slots (each_slot place unit (λ (e : Entry). e.slot < 7) (λ slot inside. inside));
  few = omega (arith, before.few, fewer, length-append old (entries_of place unit), at_most_seven place unit);
})

pub none_yet : AreSoFar (replicate 16 false) []
none_yet = record { places = λ k d within. absurd (omega (arith, within)); slots = λ k d within. absurd (omega (arith, within)); few = omega arith }

-- what is found in a list has what all of it have
found_in : (P : ℕ → Type 0) (p : ℕ → Bool) (xs : List ℕ) → All P xs → IfSome (find p xs) P
found_in P p [] all = tt
found_in P p (x ∷ xs) all = by_test (p x) (found_in P p xs (All-tail P x xs all))
  where
    by_test : (b : Bool) → IfSome (find p xs) P → IfSome (cond b (Some x) (find p xs)) P
    by_test true rest = All-head P x xs all
    by_test false rest = rest

slot_found : (place : ℕ) (found : Option ℕ) → (272 < place) × (place < 288) → IfSome found (λ slot. slot < 7) → IfSome (option_map (λ slot. (place, slot)) found) IsSlotOnTrack
slot_found place None on_track below = tt
slot_found place (Some slot) on_track below = (on_track.0, on_track.1, below)

seven : All (λ slot. slot < 7) (range_with_len 0 7)
seven k d within =
    let inside : k < 7 = omega (arith, within, length-range_with_len 0 7) in
    omega (arith, inside, get_or-range_with_len 0 7 k d inside)

-- the first free slot, with one sector more
pub free_slot_on : (old first : Option (ℕ × ℕ)) (place : ℕ) (unit : List ℕ) → (272 < place) × (place < 288) → first ≡ option_or old (first_free_of place unit)
    → IfSome old IsSlotOnTrack → IfSome first IsSlotOnTrack
unfolding first_free_of
free_slot_on (Some slot) first place unit on_track is before = subst (λ free. IfSome free IsSlotOnTrack) (sym is) before
free_slot_on None first place unit on_track is before =
    let is_free : ℕ → Bool = λ slot. not (is_in_use (entry_at place unit slot)) in
    subst (λ free. IfSome free IsSlotOnTrack) (sym is) (slot_found place (find is_free (range_with_len 0 7)) on_track (found_in (λ slot. slot < 7) is_free (range_with_len 0 7) seven))
