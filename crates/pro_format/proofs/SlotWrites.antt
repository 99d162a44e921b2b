-- A new entry written into a slot of a directory block, an entry erased, and a count written.
use Rattle.std.specs.Prelude.{◌≡◌, ◌⊎◌, ◌<◌, ◌≤◌, ◌+◌, ◌*◌, ◌/◌, ◌%◌, ◌==◌, ℕ, true, false, List, [], length, take, drop, slice_index, slice_set}
use Rattle.std.proofs.Common.{sym, ◌∙◌, ap, arith, inl, inr}
use Rattle.std.proofs.lemmas.Bool.{cases_lt}
use Rattle.std.proofs.lemmas.List.{length-set, take-take, drop-take, get_or-take, get_or-drop, get_or-set_same, get_or-set_other}
use Rattle.a2_device.specs.Device.{unit_at}
use Rattle.pro_dir.specs.Entry.{slot_bytes, storage_of, name_of, word}
use Rattle.pro_dir.specs.Volume.{map_first, total_blocks}
use Rattle.pro_dir.specs.Writes.{slot_offset, with_bytes}
use Rattle.pro_format.specs.Filled.{IsAlike, IsFilled, IsCounted}
use Rattle.pro_format.proofs.Bytes.{bytes_there, byte_before, byte_behind, length-with_bytes, same_window}

-- two units of one length that have the same bytes but from one offset to another
pub record IsSameBut (old new : List ℕ) (low high : ℕ) : Type 0 where
  pub size : length new ≡ length old
  pub bytes : (byte : ℕ) → (byte < low) ⊎ (high ≤ byte) → slice_index new byte ≡ slice_index old byte

-- bytes written there
pub but_written : (unit bytes : List ℕ) (at : ℕ) → at + length bytes ≤ length unit → IsSameBut unit (with_bytes at bytes unit) at (at + length bytes)
but_written unit bytes at fits = record {
  size = length-with_bytes unit at bytes fits;
  bytes = λ byte apart. elim apart [
    | inl low ↦ byte_before unit at bytes fits byte low
    | inr high ↦ byte_behind unit at bytes fits byte high
  ];
}

pub but_set : (unit : List ℕ) (at value : ℕ) → IsSameBut unit (slice_set unit at value) at (at + 1)
but_set unit at value = record {
  size = length-set unit at value;
  bytes = λ byte apart. get_or-set_other unit at byte value 0 (λ same. elim apart [
    | inl low ↦ omega (arith, low, same)
    | inr high ↦ omega (arith, high, same)
  ]);
}

module _ (store : List (List ℕ)) (place : ℕ) (unit : List ℕ) (inside : place < length store) where
  abbrev after : List (List ℕ)
  after = slice_set store place unit

  here : unit_at after place ≡ unit
  here = get_or-set_same store place unit [] inside

  module _ (slot low high : ℕ) (same : IsSameBut (unit_at store place) unit low high) (from : slot_offset slot ≤ low) (upto : high ≤ slot_offset slot + 39) where
    byte : (at : ℕ) → (at < low) ⊎ (high ≤ at) → slice_index (unit_at after place) at ≡ slice_index (unit_at store place) at
    byte at apart = ap (λ u. slice_index u at) here ∙ same.bytes at apart

    -- one slot written alone
    pub alike : IsAlike store after place slot
    alike = record {
      size = length-set store place unit;
      elsewhere = λ other differ. get_or-set_other store place other unit [] differ;
      others = λ other differ. ap (λ u. slot_bytes u other) here
          ∙ same_window (unit_at store place) unit (slot_offset other) 39 same.size (λ at below above. same.bytes at (elim (cases_lt other slot) [
            | inl less ↦ inl (omega (arith, less, below, above, from))
            | inr more ↦ inr (omega (arith, more, differ, below, above, upto))
          ]));
      next = ap (λ b. b + 256 * slice_index (unit_at after place) 3) (byte 2 (inl (omega (arith, from))))
          ∙ ap (λ b. slice_index (unit_at store place) 2 + 256 * b) (byte 3 (inl (omega (arith, from))));
      kind = λ first. byte 0x04 (inl (omega (arith, from, first)));
      entry_size = λ first. byte 0x23 (inl (omega (arith, from, first)));
      entry_count = λ first. byte 0x24 (inl (omega (arith, from, first)));
    }

  -- the count of files written
  pub counted : IsSameBut (unit_at store place) unit 0x25 0x27 → IsCounted store after place
  counted same = record {
    size = length-set store place unit;
    elsewhere = λ other differ. get_or-set_other store place other unit [] differ;
    others = λ other differ. ap (λ u. slot_bytes u other) here
        ∙ same_window (unit_at store place) unit (slot_offset other) 39 same.size (λ at below above. same.bytes at (inr (omega (arith, differ, below))));
    next = ap (λ b. b + 256 * slice_index (unit_at after place) 3) (byte' 2 (inl (omega arith)))
        ∙ ap (λ b. slice_index (unit_at store place) 2 + 256 * b) (byte' 3 (inl (omega arith)));
    kind = byte' 0x04 (inl (omega arith));
    entry_size = byte' 0x23 (inl (omega arith));
    entry_count = byte' 0x24 (inl (omega arith));
    name = ap (λ u. name_of (slot_bytes u 0)) here ∙ name_is unit
        ∙ ap (λ n. take (n % 16) (drop 1 (take 16 (drop 4 unit)))) (cell_same 0 (omega arith) (inl (omega arith)))
        ∙ ap (λ bs. take (slice_index (slot_bytes (unit_at store place) 0) 0 % 16) (drop 1 bs)) (same_window (unit_at store place) unit 4 16 same.size (λ at below above. same.bytes at (inl (omega (arith, above)))))
        ∙ sym (name_is (unit_at store place));
    first = ap (λ u. map_first (slot_bytes u 0)) here ∙ word_same 0x23 (omega arith) (omega arith);
    total = ap (λ u. total_blocks (slot_bytes u 0)) here ∙ word_same 0x25 (omega arith) (omega arith);
  }
    where
      byte' : (at : ℕ) → (at < 0x25) ⊎ (0x27 ≤ at) → slice_index (unit_at after place) at ≡ slice_index (unit_at store place) at
      byte' at apart = ap (λ u. slice_index u at) here ∙ same.bytes at apart

      cell : (u : List ℕ) (i : ℕ) → i < 39 → slice_index (slot_bytes u 0) i ≡ slice_index u (4 + i)
      cell u i inside' = get_or-take 39 (drop 4 u) i 0 inside' ∙ get_or-drop 4 u i 0

      cell_same : (i : ℕ) → i < 39 → (4 + i < 0x25) ⊎ (0x27 ≤ 4 + i) → slice_index (slot_bytes unit 0) i ≡ slice_index (slot_bytes (unit_at store place) 0) i
      cell_same i inside' apart = cell unit i inside' ∙ same.bytes (4 + i) apart ∙ sym (cell (unit_at store place) i inside')

      word_same : (i : ℕ) → 0x23 ≤ i → i < 38 → word (slot_bytes unit 0) i ≡ word (slot_bytes (unit_at store place) 0) i
      word_same i low high =
          ap (λ b. b + 256 * slice_index (slot_bytes unit 0) (i + 1)) (cell_same i (omega (arith, high)) (inr (omega (arith, low))))
          ∙ ap (λ b. slice_index (slot_bytes (unit_at store place) 0) i + 256 * b) (cell_same (i + 1) (omega (arith, high)) (inr (omega (arith, low))))

      name_is : (u : List ℕ) → name_of (slot_bytes u 0) ≡ take (slice_index (slot_bytes u 0) 0 % 16) (drop 1 (take 16 (drop 4 u)))
      name_is u =
          let n = slice_index (slot_bytes u 0) 0 % 16 in
          sym (take-take n 15 (drop 1 (take 39 (drop 4 u))) (omega arith))
          ∙ ap (take n) (sym (drop-take 1 15 (take 39 (drop 4 u))) ∙ ap (drop 1) (take-take 16 39 (drop 4 u) (omega arith)))

-- The bytes that were written stand in the slot.
pub written_slot : (store : List (List ℕ)) (place slot : ℕ) (bytes : List ℕ) → place < length store → slot < 13 → length (unit_at store place) ≡ 512 → length bytes ≡ 39
    → slot_bytes (unit_at (slice_set store place (with_bytes (slot_offset slot) bytes (unit_at store place))) place) slot ≡ bytes
written_slot store place slot bytes inside below whole size =
    let fits : slot_offset slot + length bytes ≤ length (unit_at store place) = omega (arith, size, below, whole) in
    ap (λ u. slot_bytes u slot) (get_or-set_same store place (with_bytes (slot_offset slot) bytes (unit_at store place)) [] inside)
    ∙ bytes_there (unit_at store place) (slot_offset slot) bytes fits 39 size

-- A new entry's bytes in a slot that had none.
pub fills : (store : List (List ℕ)) (place slot : ℕ) (bytes : List ℕ) → place < length store → slot < 13 → length (unit_at store place) ≡ 512 → length bytes ≡ 39
    → (storage_of (slot_bytes (unit_at store place) slot) == 0) ≡ true → (storage_of bytes == 0) ≡ false → (storage_of bytes == 13) ≡ false
    → IsFilled store (slice_set store place (with_bytes (slot_offset slot) bytes (unit_at store place))) place slot
fills store place slot bytes inside below whole size unused used file =
    let old = unit_at store place in
    let fits : slot_offset slot + length bytes ≤ length old = omega (arith, size, below, whole) in
    let unit = with_bytes (slot_offset slot) bytes old in
    let there = written_slot store place slot bytes inside below whole size in
    record {
      alike = alike store place unit inside slot (slot_offset slot) (slot_offset slot + length bytes) (but_written old bytes (slot_offset slot) fits) (omega arith) (omega (arith, size));
      below = below;
      unused = unused;
      used = ap (λ b. storage_of b == 0) there ∙ used;
      file = ap (λ b. storage_of b == 13) there ∙ file;
    }

-- A file's entry erased.
pub empties : (store : List (List ℕ)) (place slot : ℕ) → place < length store → slot < 13 → length (unit_at store place) ≡ 512
    → (storage_of (slot_bytes (unit_at store place) slot) == 0) ≡ false → (storage_of (slot_bytes (unit_at store place) slot) == 13) ≡ false
    → IsFilled (slice_set store place (slice_set (unit_at store place) (slot_offset slot) 0)) store place slot
empties store place slot inside below whole used file =
    let old = unit_at store place in
    let unit = slice_set old (slot_offset slot) 0 in
    let one = alike store place unit inside slot (slot_offset slot) (slot_offset slot + 1) (but_set old (slot_offset slot) 0) (omega arith) (omega arith) in
    let first : slice_index (slot_bytes (unit_at (slice_set store place unit) place) slot) 0 ≡ 0 =
    ap (λ u. slice_index (slot_bytes u slot) 0) (get_or-set_same store place unit [] inside)
    ∙ get_or-take 39 (drop (4 + 39 * slot) unit) 0 0 (omega arith) ∙ get_or-drop (4 + 39 * slot) unit 0 0
    ∙ ap (slice_index unit) (omega arith) ∙ get_or-set_same old (slot_offset slot) 0 0 (omega (arith, below, whole)) in
    record {
      alike = record {
        size = sym one.size;
        elsewhere = λ other differ. sym (one.elsewhere other differ);
        others = λ other differ. sym (one.others other differ);
        next = sym one.next;
        kind = λ zeroth. sym (one.kind zeroth);
        entry_size = λ zeroth. sym (one.entry_size zeroth);
        entry_count = λ zeroth. sym (one.entry_count zeroth);
      };
      below = below;
      unused = ap (λ b. b / 16 == 0) first;
      used = used;
      file = file;
    }
