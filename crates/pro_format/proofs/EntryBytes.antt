-- The bytes of one entry in a unit, and the same without its key pointer.
use Rattle.std.specs.Prelude.{◌≡◌, ◌<◌, ◌≤◌, ℕ, ◌+◌, ◌-◌, ◌*◌, ◌%◌, List, length, take, drop, slice_index}
use Rattle.std.proofs.Common.{sym, ◌∙◌, ap, arith, length-append, length-drop}
use Rattle.std.proofs.lemmas.List.{ext_get_or, length-take, take-take, get_or_append_left, get_or-append_right, get_or-take, get_or-drop}
use Rattle.pro_dir.specs.Entry.{name_of, slot_bytes, word}
use Rattle.pro_dir.specs.Writes.{slot_offset}
use Rattle.pro_format.specs.Pro.{without_key}
use Rattle.pro_format.proofs.Bytes.{window_cell}

-- an entry in its block
module _ (unit : List ℕ) (slot : ℕ) (whole : length unit ≡ 512) (low : slot < 13) where
  pub length-slot : length (slot_bytes unit slot) ≡ 39
  length-slot = omega (arith, length-take 39 (drop (4 + 39 * slot) unit), length-drop (4 + 39 * slot) unit, whole, low)

  pub slot_cell : (i : ℕ) → i < 39 → slice_index (slot_bytes unit slot) i ≡ slice_index unit (slot_offset slot + i)
  slot_cell i inside = window_cell unit (slot_offset slot) 39 i inside

-- two entries that have a number of two bytes at the same place
pub same_word : (old new : List ℕ) (at : ℕ) → slice_index new at ≡ slice_index old at → slice_index new (at + 1) ≡ slice_index old (at + 1) → word new at ≡ word old at
same_word old new at low high = omega (arith, low, high)

module _ (bytes : List ℕ) (whole : length bytes ≡ 39) where
  low_half : length (take 0x11 bytes) ≡ 0x11
  low_half = omega (arith, length-take 0x11 bytes, whole)

  pub length-without_key : length (without_key bytes) ≡ 37
  length-without_key = omega (arith, length-append (take 0x11 bytes) (drop 0x13 bytes), low_half, length-drop 0x13 bytes, whole)

  pub cell_before : (i : ℕ) → i < 0x11 → slice_index (without_key bytes) i ≡ slice_index bytes i
  cell_before i before = get_or_append_left (take 0x11 bytes) (drop 0x13 bytes) 0 i (omega (arith, low_half, before)) ∙ get_or-take 0x11 bytes i 0 before

  pub cell_behind : (i : ℕ) → 0x11 ≤ i → slice_index (without_key bytes) i ≡ slice_index bytes (i + 2)
  cell_behind i behind =
      get_or-append_right (take 0x11 bytes) (drop 0x13 bytes) 0x11 i 0 low_half behind
      ∙ get_or-drop 0x13 bytes (i - 0x11) 0
      ∙ ap (slice_index bytes) (omega (arith, behind))

  -- the name stands before the key pointer
  pub name_without_key : name_of (without_key bytes) ≡ name_of bytes
  name_without_key =
      ap (λ b. take (b % 16) (drop 1 (without_key bytes))) (cell_before 0 (omega arith))
      ∙ sym (take-take (slice_index bytes 0 % 16) 15 (drop 1 (without_key bytes)) (omega arith))
      ∙ ap (take (slice_index bytes 0 % 16)) same
      ∙ take-take (slice_index bytes 0 % 16) 15 (drop 1 bytes) (omega arith)
    where
      same : take 15 (drop 1 (without_key bytes)) ≡ take 15 (drop 1 bytes)
      same = ext_get_or 0 (take 15 (drop 1 (without_key bytes))) (take 15 (drop 1 bytes))
          (omega (arith, length-take 15 (drop 1 (without_key bytes)), length-take 15 (drop 1 bytes), length-drop 1 (without_key bytes), length-drop 1 bytes, length-without_key, whole))
          (λ i within.
          let inside : i < 15 = omega (arith, within, length-take 15 (drop 1 (without_key bytes))) in
          window_cell (without_key bytes) 1 15 i inside ∙ cell_before (1 + i) (omega (arith, inside)) ∙ sym (window_cell bytes 1 15 i inside))
