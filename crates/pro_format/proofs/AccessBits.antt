-- Other access bits written into an entry.
use Rattle.std.specs.Prelude.{◌≡◌, ◌≢◌, ◌<◌, ℕ, ◌+◌, ◌/◌, ◌%◌, List, ◌++◌, length, take, drop, slice_index, slice_set}
use Rattle.std.proofs.Common.{sym, ◌∙◌, ap, arith}
use Rattle.std.proofs.lemmas.List.{length-set, length-take, take-set-le, drop-set-add, set-append_right, get_or-set_other}
use Rattle.std.proofs.Math.Seq.{take-set-lt}
use Rattle.pro_dir.specs.Entry.{name_of, slot_bytes}
use Rattle.pro_dir.specs.Paths.{name_below}
use Rattle.pro_dir.specs.Writes.{slot_offset}
use Rattle.pro_format.specs.Pro.{without_key}
use Rattle.pro_format.specs.Rewritten.{IsRewrite, IsRewritten, access_at, with_access}
use Rattle.pro_format.proofs.Bytes.{same_window}
use Rattle.pro_format.proofs.EntryBytes.{length-slot, same_word}

module _ (access : ℕ) where
  -- an entry by itself
  module _ (bytes : List ℕ) (whole : length bytes ≡ 39) where
    abbrev new : List ℕ
    new = with_access 0 access bytes

    cell_kept : (i : ℕ) → i ≢ 0x1e → slice_index new i ≡ slice_index bytes i
    cell_kept i apart = get_or-set_other bytes 0x1e i access 0 apart

    pub name_kept : name_of new ≡ name_of bytes
    name_kept =
        ap (λ b. take (b % 16) (drop 1 new)) (cell_kept 0 (λ e. omega (arith, e)))
        ∙ ap (take (slice_index bytes 0 % 16)) (drop-set-add 1 bytes 0x1d access)
        ∙ take-set-le (slice_index bytes 0 % 16) (drop 1 bytes) 0x1d access (omega arith)

    pub without_key_is : without_key new ≡ slice_set (without_key bytes) access_at access
    without_key_is =
        ap (λ front. front ++ drop 0x13 new) (take-set-le 0x11 bytes 0x1e access (omega arith))
        ∙ ap (λ rest. take 0x11 bytes ++ rest) (drop-set-add 0x13 bytes 0xb access)
        ∙ sym (set-append_right (take 0x11 bytes) (drop 0x13 bytes) 0x11 access_at access (omega (arith, length-take 0x11 bytes, whole)) (omega arith))

  -- an entry in its block
  module _ (unit : List ℕ) (slot : ℕ) (low : slot < 13) (whole : length unit ≡ 512) where
    abbrev after : List ℕ
    after = with_access (slot_offset slot) access unit

    other : (byte : ℕ) → byte ≢ slot_offset slot + 0x1e → slice_index after byte ≡ slice_index unit byte
    other byte apart = get_or-set_other unit (slot_offset slot + 0x1e) byte access 0 apart

    pub slot_is : slot_bytes after slot ≡ with_access 0 access (slot_bytes unit slot)
    slot_is = ap (take 39) (drop-set-add (slot_offset slot) unit 0x1e access) ∙ take-set-lt 39 (drop (slot_offset slot) unit) 0x1e access (omega arith)

    kept : (i : ℕ) → i ≢ 0x1e → slice_index (slot_bytes after slot) i ≡ slice_index (slot_bytes unit slot) i
    kept i apart = ap (λ bs. slice_index bs i) slot_is ∙ cell_kept (slot_bytes unit slot) (length-slot unit slot whole low) i apart

    pub access_rewritten : IsRewritten unit after slot
    access_rewritten = record {
      size = length-set unit (slot_offset slot + 0x1e) access;
      others = λ another differ. same_window unit after (slot_offset another) 39 (length-set unit (slot_offset slot + 0x1e) access)
          (λ byte from upto. other byte (λ e. differ (omega (arith, e, from, upto))));
      next = same_word unit after 2 (other 2 (λ e. omega (arith, e))) (other 3 (λ e. omega (arith, e)));
      kind = ap (λ b. b / 16) (other 0x04 (λ e. omega (arith, e)));
      entry_size = other 0x23 (λ e. omega (arith, e));
      entry_count = other 0x24 (λ e. omega (arith, e));
      storage = ap (λ b. b / 16) (kept 0 (λ e. omega (arith, e)));
      key = same_word (slot_bytes unit slot) (slot_bytes after slot) 0x11 (kept 0x11 (λ e. omega (arith, e))) (kept 0x12 (λ e. omega (arith, e)));
    }

  -- an entry with other access bits
  pub is_access : IsRewrite (λ at unit. with_access at access unit) (λ path bytes. path) (λ bytes. slice_set bytes access_at access)
  is_access = record {
    rewritten = λ unit slot low whole. access_rewritten unit slot low whole;
    bytes_are = λ unit slot low whole. ap without_key (slot_is unit slot low whole) ∙ without_key_is (slot_bytes unit slot) (length-slot unit slot whole low);
    path_is = λ unit slot above low whole. ap (name_below above) (sym (ap name_of (slot_is unit slot low whole) ∙ name_kept (slot_bytes unit slot) (length-slot unit slot whole low)));
  }
