-- The bytes of a slot where something was written.
use Rattle.std.specs.Prelude.{◌⊎◌, ◌≡◌, ◌≢◌, ◌<◌, ◌≤◌, ℕ, ◌+◌, ◌-◌, List, ◌++◌, length, take, drop, slice_index}
use Rattle.std.proofs.Common.{◌∙◌, ap, arith, inl, inr, get_or, append_assoc, length-append, length-drop}
use Rattle.std.proofs.lemmas.Bool.{cases_lt}
use Rattle.std.proofs.lemmas.List.{length-take, length-take-le, drop_at, take_at, get_or_append_left, get_or-append_right, get_or-take, get_or-drop}
use Rattle.dos_catalog.specs.Entry.{entry_at}
use Rattle.dos_catalog.specs.Writes.{slot_offset, with_bytes}
use Rattle.dos_format.specs.lemmas.DosSlots.{same_window}

-- two sectors have the same bytes outside a range
abbrev pub IsSameOutside : List ℕ → List ℕ → ℕ → ℕ → Type 0
IsSameOutside old new from to = (byte : ℕ) → (byte < from) ⊎ (to ≤ byte) → slice_index new byte ≡ slice_index old byte

-- a list with some bytes written from an offset on
module _ (unit : List ℕ) (at : ℕ) (bytes : List ℕ) (fits : at + length bytes ≤ length unit) where
  front : length (take at unit) ≡ at
  front = length-take-le at unit (omega (arith, fits))

  both : length (take at unit ++ bytes) ≡ at + length bytes
  both = omega (arith, length-append (take at unit) bytes, front)

  pub bytes_there : (n : ℕ) → length bytes ≡ n → take n (drop at (with_bytes at bytes unit)) ≡ bytes
  bytes_there n size =
      ap (λ l. take n (drop at l)) (append_assoc (take at unit) bytes (drop (at + length bytes) unit))
      ∙ ap (take n) (drop_at (take at unit) (bytes ++ drop (at + length bytes) unit) at front)
      ∙ take_at bytes (drop (at + length bytes) unit) n size

  pub length-with_bytes : length (with_bytes at bytes unit) ≡ length unit
  length-with_bytes = omega (arith, length-append (take at unit ++ bytes) (drop (at + length bytes) unit), both, length-drop (at + length bytes) unit, fits)

  pub byte_before : (byte : ℕ) → byte < at → slice_index (with_bytes at bytes unit) byte ≡ slice_index unit byte
  byte_before byte low =
      get_or_append_left (take at unit ++ bytes) (drop (at + length bytes) unit) 0 byte (omega (arith, both, low))
      ∙ get_or_append_left (take at unit) bytes 0 byte (omega (arith, front, low))
      ∙ get_or-take at unit byte 0 low

  pub byte_within : (byte : ℕ) → at ≤ byte → byte < at + length bytes → slice_index (with_bytes at bytes unit) byte ≡ slice_index bytes (byte - at)
  byte_within byte low high =
      get_or_append_left (take at unit ++ bytes) (drop (at + length bytes) unit) 0 byte (omega (arith, both, high))
      ∙ get_or-append_right (take at unit) bytes at byte 0 front low

  pub byte_behind : (byte : ℕ) → at + length bytes ≤ byte → slice_index (with_bytes at bytes unit) byte ≡ slice_index unit byte
  byte_behind byte high =
      get_or-append_right (take at unit ++ bytes) (drop (at + length bytes) unit) (at + length bytes) byte 0 both high
      ∙ get_or-drop (at + length bytes) unit (byte - (at + length bytes)) 0
      ∙ ap (slice_index unit) (omega (arith, high))

-- a slot written alone leaves the others
pub other_slot : (old new : List ℕ) (slot from : ℕ) → length new ≡ length old → slot_offset slot ≤ from → IsSameOutside old new from (slot_offset slot + 35)
    → (place other : ℕ) → other ≢ slot → entry_at place new other ≡ entry_at place old other
other_slot old new slot from size inside same place other apart = ap (λ (bytes : List ℕ). record { place = place; slot = other; bytes = bytes })
    (same_window old new (slot_offset other) 35 0 size (λ byte low high. same byte (elim (cases_lt other slot) [
      | inl less ↦ inl (omega (arith, less, low, high, inside))
      | inr more ↦ inr (omega (arith, more, apart, low, high))
    ])))

-- byte i of the slot's bytes from one of them on
pub window_cell : (unit : List ℕ) (at len from i : ℕ) → from + i < len → get_or (drop from (take len (drop at unit))) i 0 ≡ slice_index unit (at + (from + i))
window_cell unit at len from i inside =
    get_or-drop from (take len (drop at unit)) i 0 ∙ get_or-take len (drop at unit) (from + i) 0 inside ∙ get_or-drop at unit (from + i) 0

pub length-window : (unit : List ℕ) (at len from : ℕ) → at + len ≤ length unit → length (drop from (take len (drop at unit))) ≡ len - from
length-window unit at len from fits = omega (arith, length-drop from (take len (drop at unit)), length-take len (drop at unit), length-drop at unit, fits)
