-- Bytes written at an offset of a list, and a part of a list.
use Rattle.std.specs.Prelude.{◌≡◌, ◌<◌, ◌≤◌, ◌+◌, ◌-◌, ℕ, List, ◌++◌, length, take, drop, slice_index}
use Rattle.std.proofs.Common.{sym, ◌∙◌, ap, arith, append_assoc, length-append, length-drop}
use Rattle.std.proofs.lemmas.List.{ext_get_or, length-take, length-take-le, drop_at, take_at, get_or_append_left, get_or-append_right, get_or-take, get_or-drop}
use Rattle.pro_dir.specs.Writes.{with_bytes}

module _ (unit : List ℕ) (at : ℕ) (bytes : List ℕ) (fits : at + length bytes ≤ length unit) where
  front : length (take at unit) ≡ at
  front = length-take-le at unit (omega (arith, fits))

  pub bytes_there : (n : ℕ) → length bytes ≡ n → take n (drop at (with_bytes at bytes unit)) ≡ bytes
  bytes_there n size =
      ap (λ l. take n (drop at l)) (append_assoc (take at unit) bytes (drop (at + length bytes) unit))
      ∙ ap (take n) (drop_at (take at unit) (bytes ++ drop (at + length bytes) unit) at front)
      ∙ take_at bytes (drop (at + length bytes) unit) n size

  both : length (take at unit ++ bytes) ≡ at + length bytes
  both = omega (arith, length-append (take at unit) bytes, front)

  pub length-with_bytes : length (with_bytes at bytes unit) ≡ length unit
  length-with_bytes = omega (arith, length-append (take at unit ++ bytes) (drop (at + length bytes) unit), both, length-drop (at + length bytes) unit, fits)

  pub byte_before : (byte : ℕ) → byte < at → slice_index (with_bytes at bytes unit) byte ≡ slice_index unit byte
  byte_before byte low =
      get_or_append_left (take at unit ++ bytes) (drop (at + length bytes) unit) 0 byte (omega (arith, both, low))
      ∙ get_or_append_left (take at unit) bytes 0 byte (omega (arith, front, low))
      ∙ get_or-take at unit byte 0 low

  pub byte_inside : (k : ℕ) → k < length bytes → slice_index (with_bytes at bytes unit) (at + k) ≡ slice_index bytes k
  byte_inside k inside =
      get_or_append_left (take at unit ++ bytes) (drop (at + length bytes) unit) 0 (at + k) (omega (arith, both, inside))
      ∙ get_or-append_right (take at unit) bytes at (at + k) 0 front (omega arith)
      ∙ ap (slice_index bytes) (omega arith)

  pub byte_behind : (byte : ℕ) → at + length bytes ≤ byte → slice_index (with_bytes at bytes unit) byte ≡ slice_index unit byte
  byte_behind byte high =
      get_or-append_right (take at unit ++ bytes) (drop (at + length bytes) unit) (at + length bytes) byte 0 both high
      ∙ get_or-drop (at + length bytes) unit (byte - (at + length bytes)) 0
      ∙ ap (slice_index unit) (omega (arith, high))

-- one byte of a part of a list
pub window_cell : (unit : List ℕ) (at len i : ℕ) → i < len → slice_index (take len (drop at unit)) i ≡ slice_index unit (at + i)
window_cell unit at len i inside = get_or-take len (drop at unit) i 0 inside ∙ get_or-drop at unit i 0

-- part of a list, where two lists have the same there
pub same_window : (old new : List ℕ) (at len : ℕ) → length new ≡ length old → ((byte : ℕ) → at ≤ byte → byte < at + len → slice_index new byte ≡ slice_index old byte)
    → take len (drop at new) ≡ take len (drop at old)
same_window old new at len size same = ext_get_or 0 (take len (drop at new)) (take len (drop at old))
    (omega (arith, length-take len (drop at new), length-take len (drop at old), length-drop at new, length-drop at old, size))
    (λ i within.
    let inside : i < len = omega (arith, within, length-take len (drop at new)) in
    window_cell new at len i inside ∙ same (at + i) (omega arith) (omega (arith, inside)) ∙ sym (window_cell old at len i inside))
