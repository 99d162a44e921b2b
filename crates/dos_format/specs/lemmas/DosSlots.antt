-- One slot of a catalog sector, written: its entry has another pointer, and the other slots have the same entries.
use Rattle.std.specs.Prelude.{◌≡◌, ◌≢◌, ◌<◌, ◌≤◌, ℕ, ◌+◌, ◌-◌, ◌/◌, ◌%◌, ◌==◌, not, ◌&&◌, true, false, Bool, List, length, take, drop, slice_index}
use Rattle.std.proofs.Common.{refl, sym, ◌∙◌, ap, arith, get_or, length-drop}
use Rattle.std.proofs.lemmas.Bool.Decides.{nat_tests}
use Rattle.std.proofs.lemmas.List.{ext_get_or, get_or-drop, get_or-take, length-take}
use Rattle.dos_catalog.specs.Entry.{entry_at, is_in_use}
use Rattle.dos_catalog.specs.Writes.{slot_offset}
use Rattle.dos_format.specs.Dos.{dos_with_root}
use Rattle.dos_format.specs.lemmas.DosBytes.{length-with_place, byte-with_place_other, track-with_place, sector-with_place}

-- part of a window of a list, where two lists have the same there
pub same_window : (old new : List ℕ) (at len from : ℕ) → length new ≡ length old
    → ((byte : ℕ) → at + from ≤ byte → byte < at + len → slice_index new byte ≡ slice_index old byte)
    → drop from (take len (drop at new)) ≡ drop from (take len (drop at old))
same_window old new at len from size same = ext_get_or 0 (drop from (take len (drop at new))) (drop from (take len (drop at old))) lengths cells
  where
    length_of : (unit : List ℕ) → length (drop from (take len (drop at unit))) ≡ length (take len (drop at unit)) - from
    length_of unit = length-drop from (take len (drop at unit))

    lengths : length (drop from (take len (drop at new))) ≡ length (drop from (take len (drop at old)))
    lengths = omega (
      arith,
      length_of new,
      length_of old,
      length-take len (drop at new),
      length-take len (drop at old),
      length-drop at new,
      length-drop at old,
      size,
    )

    cell : (unit : List ℕ) (i : ℕ) → from + i < len → get_or (drop from (take len (drop at unit))) i 0 ≡ slice_index unit (at + (from + i))
    cell unit i inside = get_or-drop from (take len (drop at unit)) i 0 ∙ get_or-take len (drop at unit) (from + i) 0 inside ∙ get_or-drop at unit (from + i) 0

    cells : (i : ℕ) → i < length (drop from (take len (drop at new))) → get_or (drop from (take len (drop at new))) i 0 ≡ get_or (drop from (take len (drop at old))) i 0
    cells i within =
        let inside : from + i < len = omega (arith, within, length_of new, length-take len (drop at new)) in
        cell new i inside ∙ same (at + (from + i)) (omega arith) (omega (arith, inside)) ∙ sym (cell old i inside)

module _ (unit : List ℕ) (slot to : ℕ) where
  -- the bytes behind the pointer
  pub behind_pointer : (from : ℕ) → 2 ≤ from → drop from (take 35 (drop (slot_offset slot) (dos_with_root unit slot to))) ≡ drop from (take 35 (drop (slot_offset slot) unit))
  behind_pointer from behind =
      same_window unit (dos_with_root unit slot to) (slot_offset slot) 35 from (length-with_place (slot_offset slot) to unit)
      (λ byte low high. byte-with_place_other (slot_offset slot) to unit byte (λ e. omega (arith, e, low, behind)) (λ e. omega (arith, e, low, behind)))

  -- another slot
  pub other_slot : (place other : ℕ) → other ≢ slot → entry_at place (dos_with_root unit slot to) other ≡ entry_at place unit other
  other_slot place other apart = ap (λ (bytes : List ℕ). record { place = place; slot = other; bytes = bytes })
      (same_window unit (dos_with_root unit slot to) (slot_offset other) 35 0 (length-with_place (slot_offset slot) to unit)
      (λ byte low high. byte-with_place_other (slot_offset slot) to unit byte (λ e. apart (omega (arith, e, low, high))) (λ e. apart (omega (arith, e, low, high)))))

  -- the pointer
  pub track_there : slot_offset slot + 1 < length unit → slice_index (take 35 (drop (slot_offset slot) (dos_with_root unit slot to))) 0 ≡ to / 16
  track_there within =
      get_or-take 35 (drop (slot_offset slot) (dos_with_root unit slot to)) 0 0 (omega arith)
      ∙ get_or-drop (slot_offset slot) (dos_with_root unit slot to) 0 0
      ∙ ap (slice_index (dos_with_root unit slot to)) (omega arith)
      ∙ track-with_place (slot_offset slot) to unit (omega (arith, within))

  pub sector_there : slot_offset slot + 1 < length unit → slice_index (take 35 (drop (slot_offset slot) (dos_with_root unit slot to))) 1 ≡ to % 16
  sector_there within =
      get_or-take 35 (drop (slot_offset slot) (dos_with_root unit slot to)) 1 0 (omega arith)
      ∙ get_or-drop (slot_offset slot) (dos_with_root unit slot to) 1 0
      ∙ sector-with_place (slot_offset slot) to unit within

  -- the entry stays in use, since a place that can be named is on no track 00 or FF
  pub in_use_there : (place : ℕ) → (16 ≤ to) × (to < 560) → slot_offset slot + 1 < length unit → is_in_use (entry_at place (dos_with_root unit slot to) slot) ≡ true
  in_use_there place named within =
      ap (λ track. not (track == 0) && not (track == 0xff)) (track_there within)
      ∙ by_tests (to / 16 == 0) (to / 16 == 0xff) refl refl
    where
      by_tests : (zero last : Bool) → (to / 16 == 0) ≡ zero → (to / 16 == 0xff) ≡ last → (not zero && not last) ≡ true
      by_tests true last zero_is last_is = absurd (grind (arith, nat_tests, named.0))
      by_tests false true zero_is last_is = absurd (grind (arith, nat_tests, named.1))
      by_tests false false zero_is last_is = refl
