-- An entry of a directory of which the name or the access bits are written (ProDOS 8 Technical Reference Manual,
-- Appendix B).
use Rattle.std.specs.Prelude.{◌≡◌, ◌≢◌, ◌<◌, ℕ, ◌+◌, ◌-◌, ◌*◌, ◌/◌, List, ◌++◌, Option, length, take, slice_index, slice_set}
use Rattle.pro_dir.specs.Entry.{name_of, slot_bytes, storage_of, word}
use Rattle.pro_dir.specs.Paths.{name_below}
use Rattle.pro_dir.specs.Tree.{next_of}
use Rattle.pro_dir.specs.Writes.{padded, slot_offset, with_bytes}
use Rattle.pro_format.specs.Pro.{without_key}

-- The bytes with an entry from an offset on, with another name: the length of the name stands in the low four bits of
-- the entry's byte 00, whose high four bits stay, and the 15 bytes from 01 on have the name, with 00 behind it.
abbrev pub with_name : ℕ → ℕ → List ℕ → List ℕ → List ℕ
with_name at len name unit = with_bytes (at + 1) (padded len name)
    (slice_set unit at (slice_index unit at / 16 * 16 + len))

-- the same with other access bits, which stand in the entry's byte 1E
abbrev pub with_access : ℕ → ℕ → List ℕ → List ℕ
with_access at access unit = slice_set unit (at + 0x1e) access

-- An entry's bytes without the two of its key pointer, which stand at 11 and 12, have the access bits two bytes sooner.
abbrev pub access_at : ℕ
access_at = 0x1c

-- a path that ends with another name: what stands before the old name, and the new one
abbrev pub renamed : List ℕ → List ℕ → List ℕ → List ℕ
renamed path old new = take (length path - length old) path ++ new

-- Two directory blocks that differ in one slot alone. The links to other blocks, the fields of a header, and the
-- storage type and the key pointer of the slot's entry are the same.
pub record IsRewritten (old new : List ℕ) (slot : ℕ) : Type 0 where
  pub size : length new ≡ length old
  pub others : (other : ℕ) → other ≢ slot → slot_bytes new other ≡ slot_bytes old other
  pub next : next_of new ≡ next_of old
  pub kind : slice_index new 0x04 / 16 ≡ slice_index old 0x04 / 16
  pub entry_size : slice_index new 0x23 ≡ slice_index old 0x23
  pub entry_count : slice_index new 0x24 ≡ slice_index old 0x24
  pub storage : storage_of (slot_bytes new slot) ≡ storage_of (slot_bytes old slot)
  pub key : word (slot_bytes new slot) 0x11 ≡ word (slot_bytes old slot) 0x11

-- A way to rewrite an entry of a directory block, and what the directory of the volume then has for its path and its
-- bytes. An entry's bytes are here those without the two of its key pointer.
pub record IsRewrite (write : ℕ → List ℕ → List ℕ) (path : List ℕ → List ℕ → List ℕ)
    (bytes : List ℕ → List ℕ) : Type 0 where
  pub rewritten : (unit : List ℕ) (slot : ℕ) → slot < 13 → length unit ≡ 512
      → IsRewritten unit (write (slot_offset slot) unit) slot
  pub bytes_are : (unit : List ℕ) (slot : ℕ) → slot < 13 → length unit ≡ 512
      → without_key (slot_bytes (write (slot_offset slot) unit) slot) ≡ bytes (without_key (slot_bytes unit slot))
  pub path_is : (unit : List ℕ) (slot : ℕ) (above : Option (List ℕ)) → slot < 13 → length unit ≡ 512
      → path (name_below above (name_of (slot_bytes unit slot))) (without_key (slot_bytes unit slot))
      ≡ name_below above (name_of (slot_bytes (write (slot_offset slot) unit) slot))
