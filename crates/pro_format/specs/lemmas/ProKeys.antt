-- A key pointer, written into an entry's bytes and into its slot of a directory block.
use Rattle.std.specs.Prelude.{◌≡◌, ◌≢◌, ◌<◌, ◌≤◌, ℕ, ◌+◌, ◌/◌, ◌%◌, List, ◌++◌, length, take, drop, slice_index, slice_set}
use Rattle.std.proofs.Common.{sym, ◌∙◌, ap, arith, get_or, length-drop}
use Rattle.std.proofs.lemmas.List.{ext_get_or, get_or-drop, get_or-take, get_or-set_same, get_or-set_other, length-set, length-take, drop-set-add, drop-set-lt, take-set-le}
use Rattle.std.proofs.Math.Seq.{take-set-lt}
use Rattle.pro_dir.specs.Entry.{name_of, slot_bytes, storage_of, word}
use Rattle.pro_dir.specs.Writes.{slot_offset}
use Rattle.pro_format.specs.Pro.{key_offset, pro_with_root, without_key}

-- an entry's bytes with another key pointer
abbrev pub keyed : ℕ → List ℕ → List ℕ
keyed to bytes = slice_set (slice_set bytes 0x11 (to % 256)) 0x12 (to / 256)

module _ (to : ℕ) (bytes : List ℕ) where
  byte-keyed : (at : ℕ) → at ≢ 0x11 → at ≢ 0x12 → slice_index (keyed to bytes) at ≡ slice_index bytes at
  byte-keyed at low high = get_or-set_other (slice_set bytes 0x11 (to % 256)) 0x12 at (to / 256) 0 high ∙ get_or-set_other bytes 0x11 at (to % 256) 0 low

  first-keyed : slice_index (keyed to bytes) 0 ≡ slice_index bytes 0
  first-keyed = byte-keyed 0 (λ e. omega (arith, e)) (λ e. omega (arith, e))

  pub storage-keyed : storage_of (keyed to bytes) ≡ storage_of bytes
  storage-keyed = ap (λ b. b / 16) first-keyed

  pub name-keyed : name_of (keyed to bytes) ≡ name_of bytes
  name-keyed =
      ap (λ b. take (b % 16) (drop 1 (keyed to bytes))) first-keyed
      ∙ ap (take (slice_index bytes 0 % 16)) (drop-set-add 1 (slice_set bytes 0x11 (to % 256)) 0x11 (to / 256)
      ∙ ap (λ bs. slice_set bs 0x11 (to / 256)) (drop-set-add 1 bytes 0x10 (to % 256)))
      ∙ take-set-le (slice_index bytes 0 % 16) (slice_set (drop 1 bytes) 0x10 (to % 256)) 0x11 (to / 256) (omega arith)
      ∙ take-set-le (slice_index bytes 0 % 16) (drop 1 bytes) 0x10 (to % 256) (omega arith)

  pub without_key-keyed : without_key (keyed to bytes) ≡ without_key bytes
  without_key-keyed =
      ap (λ front. front ++ drop 0x13 (keyed to bytes))
      (take-set-le 0x11 (slice_set bytes 0x11 (to % 256)) 0x12 (to / 256) (omega arith) ∙ take-set-le 0x11 bytes 0x11 (to % 256) (omega arith))
      ∙ ap (λ rest. take 0x11 bytes ++ rest)
      (drop-set-lt 0x13 (slice_set bytes 0x11 (to % 256)) 0x12 (to / 256) (omega arith) ∙ drop-set-lt 0x13 bytes 0x11 (to % 256) (omega arith))

  pub key-keyed : 0x12 < length bytes → word (keyed to bytes) 0x11 ≡ to
  key-keyed within =
      let apart : ◌≢◌ {A = ℕ} 0x11 0x12 = λ e. omega (arith, e) in
      let low : slice_index (keyed to bytes) 0x11 ≡ to % 256 =
      get_or-set_other (slice_set bytes 0x11 (to % 256)) 0x12 0x11 (to / 256) 0 apart ∙ get_or-set_same bytes 0x11 (to % 256) 0 (omega (arith, within)) in
      let high : slice_index (keyed to bytes) 0x12 ≡ to / 256 =
      get_or-set_same (slice_set bytes 0x11 (to % 256)) 0x12 (to / 256) 0 (omega (arith, within, length-set bytes 0x11 (to % 256))) in
      omega (arith, low, high)

-- part of a list, where two lists have the same there
same_window : (old new : List ℕ) (at len : ℕ) → length new ≡ length old → ((byte : ℕ) → at ≤ byte → byte < at + len → slice_index new byte ≡ slice_index old byte)
    → take len (drop at new) ≡ take len (drop at old)
same_window old new at len size same = ext_get_or 0 (take len (drop at new)) (take len (drop at old))
    (omega (arith, length-take len (drop at new), length-take len (drop at old), length-drop at new, length-drop at old, size))
    (λ i within.
    let inside : i < len = omega (arith, within, length-take len (drop at new)) in
    cell new i inside ∙ same (at + i) (omega arith) (omega (arith, inside)) ∙ sym (cell old i inside))
  where
    cell : (unit : List ℕ) (i : ℕ) → i < len → get_or (take len (drop at unit)) i 0 ≡ slice_index unit (at + i)
    cell unit i inside = get_or-take len (drop at unit) i 0 inside ∙ get_or-drop at unit i 0

module _ (unit : List ℕ) (slot to : ℕ) where
  pub length-with_root : length (pro_with_root unit slot to) ≡ length unit
  length-with_root = length-set (slice_set unit (key_offset slot) (to % 256)) (key_offset slot + 1) (to / 256) ∙ length-set unit (key_offset slot) (to % 256)

  pub byte-with_root : (byte : ℕ) → byte ≢ key_offset slot → byte ≢ key_offset slot + 1 → slice_index (pro_with_root unit slot to) byte ≡ slice_index unit byte
  byte-with_root byte low high =
      get_or-set_other (slice_set unit (key_offset slot) (to % 256)) (key_offset slot + 1) byte (to / 256) 0 high
      ∙ get_or-set_other unit (key_offset slot) byte (to % 256) 0 low

  -- the slot, and the others
  pub slot-there : slot_bytes (pro_with_root unit slot to) slot ≡ keyed to (slot_bytes unit slot)
  slot-there =
      let second : key_offset slot + 1 ≡ slot_offset slot + 0x12 = omega arith in
      ap (λ at. take 39 (drop (slot_offset slot) (slice_set (slice_set unit (key_offset slot) (to % 256)) at (to / 256)))) second
      ∙ ap (take 39) (drop-set-add (slot_offset slot) (slice_set unit (key_offset slot) (to % 256)) 0x12 (to / 256)
      ∙ ap (λ bs. slice_set bs 0x12 (to / 256)) (drop-set-add (slot_offset slot) unit 0x11 (to % 256)))
      ∙ take-set-lt 39 (slice_set (drop (slot_offset slot) unit) 0x11 (to % 256)) 0x12 (to / 256) (omega arith)
      ∙ ap (λ bs. slice_set bs 0x12 (to / 256)) (take-set-lt 39 (drop (slot_offset slot) unit) 0x11 (to % 256) (omega arith))

  pub slot-other : (other : ℕ) → other ≢ slot → slot_bytes (pro_with_root unit slot to) other ≡ slot_bytes unit other
  slot-other other apart = same_window unit (pro_with_root unit slot to) (slot_offset other) 39 length-with_root
      (λ byte low high. byte-with_root byte (λ e. apart (omega (arith, e, low, high))) (λ e. apart (omega (arith, e, low, high))))
