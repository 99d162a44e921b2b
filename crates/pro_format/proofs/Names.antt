-- Another name written into an entry.
use Rattle.std.specs.Prelude.{◌≡◌, ◌⊎◌, ◌<◌, ◌≤◌, ℕ, zero, suc, ◌+◌, ◌-◌, ◌*◌, ◌/◌, ◌%◌, List, Option, length, take, drop, replicate, slice_index, slice_set}
use Rattle.std.proofs.Common.{sym, ◌∙◌, ap, arith, inl, inr, length-append}
use Rattle.std.proofs.lemmas.Bool.{cases_eq, cases_lt}
use Rattle.std.proofs.lemmas.List.{ext_get_or, length-set, length-take-le, length-replicate, take-take, take_at, get_or-set_same, get_or-set_other}
use Rattle.pro_dir.specs.Entry.{name_of, slot_bytes, storage_of}
use Rattle.pro_dir.specs.Paths.{name_below}
use Rattle.pro_dir.specs.Writes.{padded, slot_offset}
use Rattle.pro_format.specs.Pro.{without_key}
use Rattle.pro_format.specs.Rewritten.{IsRewrite, IsRewritten, renamed, with_name}
use Rattle.pro_format.proofs.Bytes.{bytes_there, byte_before, byte_behind, byte_inside, length-with_bytes, same_window}
use Rattle.pro_format.proofs.EntryBytes.{cell_before, cell_behind, length-slot, length-without_key, name_without_key, same_word, slot_cell}
use Rattle.pro_format.proofs.Spelled.{renamed_below}

module _ (len : ℕ) (name : List ℕ) (short : len ≤ 15) (long : length name ≡ 15) where
  size : length (padded len name) ≡ 15
  size = omega (arith, length-append (take len name) (replicate (15 - len) 0), length-take-le len name (omega (arith, short, long)), length-replicate {A = ℕ} (15 - len) 0, short)

  module _ (unit : List ℕ) (at : ℕ) (fits : at + 16 ≤ length unit) where
    abbrev first : ℕ
    first = slice_index unit at / 16 * 16 + len

    abbrev set : List ℕ
    set = slice_set unit at first

    fits' : (at + 1) + length (padded len name) ≤ length set
    fits' = omega (arith, size, length-set unit at first, fits)

    pub length-with_name : length (with_name at len name unit) ≡ length unit
    length-with_name = length-with_bytes set (at + 1) (padded len name) fits' ∙ length-set unit at first

    pub name_first : slice_index (with_name at len name unit) at ≡ first
    name_first = byte_before set (at + 1) (padded len name) fits' at (omega arith) ∙ get_or-set_same unit at first 0 (omega (arith, fits))

    pub name_inside : (k : ℕ) → k < 15 → slice_index (with_name at len name unit) (at + 1 + k) ≡ slice_index (padded len name) k
    name_inside k inside = byte_inside set (at + 1) (padded len name) fits' k (omega (arith, inside, size))

    pub name_other : (byte : ℕ) → (byte < at) ⊎ (at + 16 ≤ byte) → slice_index (with_name at len name unit) byte ≡ slice_index unit byte
    name_other byte (inl low) = byte_before set (at + 1) (padded len name) fits' byte (omega (arith, low)) ∙ get_or-set_other unit at byte first 0 (λ e. omega (arith, low, e))
    name_other byte (inr high) =
        byte_behind set (at + 1) (padded len name) fits' byte (omega (arith, high, size)) ∙ get_or-set_other unit at byte first 0 (λ e. omega (arith, high, e))

    pub stored_name : take 15 (drop (at + 1) (with_name at len name unit)) ≡ padded len name
    stored_name = bytes_there set (at + 1) (padded len name) fits' 15 size

  -- the same byte in two units with an entry each, wherever they have them
  alike : (unit other : List ℕ) (at there i : ℕ) → at + 16 ≤ length unit → there + 16 ≤ length other → slice_index unit (at + i) ≡ slice_index other (there + i)
      → slice_index (with_name at len name unit) (at + i) ≡ slice_index (with_name there len name other) (there + i)
  alike unit other at there zero fits fits' same =
      ap (slice_index (with_name at len name unit)) (omega arith) ∙ name_first unit at fits
      ∙ ap (λ b. b / 16 * 16 + len) (ap (slice_index unit) (omega arith) ∙ same ∙ ap (slice_index other) (omega arith))
      ∙ sym (ap (slice_index (with_name there len name other)) (omega arith) ∙ name_first other there fits')
  alike unit other at there (suc k) fits fits' same = elim (cases_lt k 15) [
    | inl inside ↦
        ap (slice_index (with_name at len name unit)) (omega arith) ∙ name_inside unit at fits k inside
        ∙ sym (ap (slice_index (with_name there len name other)) (omega arith) ∙ name_inside other there fits' k inside)
    | inr past ↦
        name_other unit at fits (at + suc k) (inr (omega (arith, past))) ∙ same ∙ sym (name_other other there fits' (there + suc k) (inr (omega (arith, past))))
  ]

  -- an entry by itself
  module _ (bytes : List ℕ) (whole : length bytes ≡ 39) where
    abbrev new : List ℕ
    new = with_name 0 len name bytes

    size_kept : length new ≡ 39
    size_kept = length-with_name bytes 0 (omega (arith, whole)) ∙ whole

    pub name_is : name_of new ≡ take len name
    name_is =
        let low : slice_index new 0 % 16 ≡ len = omega (arith, name_first bytes 0 (omega (arith, whole)), short) in
        ap (λ n. take n (drop 1 new)) low
        ∙ sym (take-take len 15 (drop 1 new) short)
        ∙ ap (take len) (stored_name bytes 0 (omega (arith, whole)))
        ∙ take_at (take len name) (replicate (15 - len) 0) len (length-take-le len name (omega (arith, short, long)))

    pub without_key_is : without_key new ≡ with_name 0 len name (without_key bytes)
    without_key_is = ext_get_or 0 (without_key new) (with_name 0 len name (without_key bytes))
        (omega (arith, length-without_key new size_kept, length-without_key bytes whole, length-with_name (without_key bytes) 0 (omega (arith, length-without_key bytes whole))))
        (λ i within. elim (cases_lt i 0x11) [
          | inl before ↦
              let here : 0 + i ≡ i = omega arith in
              cell_before new size_kept i before
              ∙ ap (slice_index new) (sym here)
              ∙ alike bytes (without_key bytes) 0 0 i (omega (arith, whole)) (omega (arith, length-without_key bytes whole))
              (ap (slice_index bytes) here ∙ sym (cell_before bytes whole i before) ∙ ap (slice_index (without_key bytes)) (sym here))
              ∙ ap (slice_index (with_name 0 len name (without_key bytes))) here
          | inr behind ↦
              cell_behind new size_kept i (omega (arith, behind))
              ∙ name_other bytes 0 (omega (arith, whole)) (i + 2) (inr (omega (arith, behind)))
              ∙ sym (cell_behind bytes whole i (omega (arith, behind)))
              ∙ sym (name_other (without_key bytes) 0 (omega (arith, length-without_key bytes whole)) i (inr (omega (arith, behind))))
        ])

  -- an entry in its block
  module _ (unit : List ℕ) (slot : ℕ) (low : slot < 13) (whole : length unit ≡ 512) where
    abbrev after : List ℕ
    after = with_name (slot_offset slot) len name unit

    fits : slot_offset slot + 16 ≤ length unit
    fits = omega (arith, low, whole)

    whole' : length after ≡ 512
    whole' = length-with_name unit (slot_offset slot) fits ∙ whole

    other : (byte : ℕ) → (byte < slot_offset slot) ⊎ (slot_offset slot + 16 ≤ byte) → slice_index after byte ≡ slice_index unit byte
    other = name_other unit (slot_offset slot) fits

    pub slot_is : slot_bytes after slot ≡ with_name 0 len name (slot_bytes unit slot)
    slot_is = ext_get_or 0 (slot_bytes after slot) (with_name 0 len name (slot_bytes unit slot))
        (omega (arith, length-slot after slot whole' low, length-slot unit slot whole low, length-with_name (slot_bytes unit slot) 0 (omega (arith, length-slot unit slot whole low))))
        (λ i within.
        let inside : i < 39 = omega (arith, within, length-slot after slot whole' low) in
        let here : 0 + i ≡ i = omega arith in
        slot_cell after slot whole' low i inside
        ∙ alike unit (slot_bytes unit slot) (slot_offset slot) 0 i fits (omega (arith, length-slot unit slot whole low))
        (sym (slot_cell unit slot whole low i inside) ∙ ap (slice_index (slot_bytes unit slot)) (sym here))
        ∙ ap (slice_index (with_name 0 len name (slot_bytes unit slot))) here)

    storage_kept : storage_of (slot_bytes after slot) ≡ storage_of (slot_bytes unit slot)
    storage_kept = ap storage_of slot_is ∙ omega (arith, name_first (slot_bytes unit slot) 0 (omega (arith, length-slot unit slot whole low)), short)

    cell_kept : (i : ℕ) → 16 ≤ i → i < 39 → slice_index (slot_bytes after slot) i ≡ slice_index (slot_bytes unit slot) i
    cell_kept i from inside = slot_cell after slot whole' low i inside ∙ other (slot_offset slot + i) (inr (omega (arith, from))) ∙ sym (slot_cell unit slot whole low i inside)

    -- the first slot of a block has its storage type where a key block has that of its header
    kind_kept : slice_index after 0x04 / 16 ≡ slice_index unit 0x04 / 16
    kind_kept = elim (cases_eq slot 0) [
      | inl first ↦
          let here : slot_offset slot ≡ 0x04 = omega (arith, first) in
          let new = ap (slice_index after) (sym here) ∙ name_first unit (slot_offset slot) fits in
          let old = ap (slice_index unit) here in
          omega (arith, new, old, short)
      | inr later ↦ ap (λ b. b / 16) (other 0x04 (inl (omega (arith, later))))
    ]

    size_field : (byte : ℕ) → 20 ≤ byte → byte < 43 → slice_index after byte ≡ slice_index unit byte
    size_field byte from below = elim (cases_eq slot 0) [
      | inl first ↦ other byte (inr (omega (arith, first, from)))
      | inr later ↦ other byte (inl (omega (arith, later, below)))
    ]

    pub name_rewritten : IsRewritten unit after slot
    name_rewritten = record {
      size = length-with_name unit (slot_offset slot) fits;
      others = λ another differ. same_window unit after (slot_offset another) 39 (length-with_name unit (slot_offset slot) fits) (λ byte from upto. elim (cases_lt another slot) [
        | inl less ↦ other byte (inl (omega (arith, less, upto)))
        | inr more ↦ other byte (inr (omega (arith, more, differ, from)))
      ]);
      next = same_word unit after 2 (other 2 (inl (omega arith))) (other 3 (inl (omega arith)));
      kind = kind_kept;
      entry_size = size_field 0x23 (omega arith) (omega arith);
      entry_count = size_field 0x24 (omega arith) (omega arith);
      storage = storage_kept;
      key = same_word (slot_bytes unit slot) (slot_bytes after slot) 0x11 (cell_kept 0x11 (omega arith) (omega arith)) (cell_kept 0x12 (omega arith) (omega arith));
    }

    pub path_renamed : (above : Option (List ℕ)) → renamed (name_below above (name_of (slot_bytes unit slot))) (name_of (without_key (slot_bytes unit slot))) (take len name)
        ≡ name_below above (name_of (slot_bytes after slot))
    path_renamed above =
        ap (λ old. renamed (name_below above (name_of (slot_bytes unit slot))) old (take len name)) (name_without_key (slot_bytes unit slot) (length-slot unit slot whole low))
        ∙ renamed_below above (name_of (slot_bytes unit slot)) (take len name)
        ∙ sym (ap (name_below above) (ap name_of slot_is ∙ name_is (slot_bytes unit slot) (length-slot unit slot whole low)))

  -- an entry renamed
  pub is_renaming : IsRewrite (λ at unit. with_name at len name unit) (λ path bytes. renamed path (name_of bytes) (take len name)) (λ bytes. with_name 0 len name bytes)
  is_renaming = record {
    rewritten = λ unit slot low whole. name_rewritten unit slot low whole;
    bytes_are = λ unit slot low whole. ap without_key (slot_is unit slot low whole) ∙ without_key_is (slot_bytes unit slot) (length-slot unit slot whole low);
    path_is = λ unit slot above low whole. path_renamed unit slot low whole above;
  }
