-- The kind of an entry written, or its name: the directory has this entry rewritten.
use Rattle.std.specs.Prelude.{◌≡◌, ◌≢◌, ◌<◌, ◌≤◌, ℕ, ◌+◌, ◌++◌, Bool, List, length, take, drop, slice_index, slice_set}
use Rattle.std.proofs.Common.{refl, sym, ◌∙◌, ap, arith, subst, get_or, inl, inr}
use Rattle.std.proofs.lemmas.Bool.{cases_eq, cases_lt}
use Rattle.std.proofs.lemmas.List.{ext_get_or, length-set, length-take-le, get_or-take, get_or-set_same, get_or-set_other}
use Rattle.a2_device.specs.Device.{unit_at}
use Rattle.dos_catalog.specs.declared.entry.Entry.{Entry}
use Rattle.dos_catalog.specs.Entry.{entries_in}
use Rattle.dos_catalog.specs.Writes.{slot_offset, with_bytes}
use Rattle.vol_format.specs.Directory.{Directory, Listed, entries, entry_of}
use Rattle.dos_format.specs.Dos.{dos_directory, DescribesDos}
use Rattle.dos_format.specs.lemmas.DosDirectory.{length-numbered, entry_of-dos, no_list}
use Rattle.dos_format.specs.lemmas.DosEntries.{on_track}
use Rattle.dos_format.specs.lemmas.DosRoots.{IsStored, each_stored}
use Rattle.dos_format.specs.lemmas.DosSlots.{same_window}
use Rattle.vol_laws.specs.Inserted.{rewritten}
use Rattle.dos_format.specs.Rewriting.{with_kind, with_name, place_of_entry, slot_of_entry, sector_of_entry, kind_written, name_written}
use Rattle.dos_format.proofs.Windows.{IsSameOutside, length-with_bytes, byte_before, byte_within, byte_behind, window_cell, length-window}
use Rattle.dos_format.proofs.Rewritten.{rewritten_at}

-- the 35 bytes of a slot
abbrev window : List ℕ → ℕ → List ℕ
window unit slot = take 35 (drop (slot_offset slot) unit)

-- What is written into a slot keeps the sector's other bytes and the slot's pointer; the name and the bytes from the kind on become these.
record IsRewrite (write : List ℕ → ℕ → List ℕ) (new_path new_bytes : List ℕ → List ℕ) : Type 0 where
  long : (unit : List ℕ) (slot : ℕ) → slot < 7 → length unit ≡ 256 → length (write unit slot) ≡ length unit
  same : (unit : List ℕ) (slot : ℕ) → slot < 7 → length unit ≡ 256 → IsSameOutside unit (write unit slot) (slot_offset slot + 2) (slot_offset slot + 35)
  path : (unit : List ℕ) (slot : ℕ) → slot < 7 → length unit ≡ 256 → take 30 (drop 3 (window (write unit slot) slot)) ≡ new_path (take 30 (drop 3 (window unit slot)))
  bytes : (unit : List ℕ) (slot : ℕ) → slot < 7 → length unit ≡ 256 → drop 2 (window (write unit slot) slot) ≡ new_bytes (drop 2 (window unit slot))

module _ (data_disk : Bool) (reserved : List Bool) (store : List (List ℕ)) (write : List ℕ → ℕ → List ℕ) (new_path new_bytes : List ℕ → List ℕ)
    (is : IsRewrite write new_path new_bytes) where
  abbrev write_entry : Directory → ℕ → List (List ℕ)
  write_entry d file = slice_set store (place_of_entry d file) (write (sector_of_entry d store file) (slot_of_entry d file))

  abbrev Rewrites : ℕ → Directory → Type 0
  Rewrites file d = file < entries d → length (sector_of_entry d store file) ≡ 256
      → DescribesDos data_disk reserved (write_entry d file) (rewritten d file (new_path (entry_of d file).path) (new_bytes (entry_of d file).bytes))

  rewrites : (directory : Directory) (file : ℕ) → DescribesDos data_disk reserved store directory → Rewrites file directory
  rewrites directory file described = subst (Rewrites file) (sym described.says) (λ within whole.
      let sectors = described.sectors in
      let all = entries_in store sectors in
      let inside : file < length all = omega (arith, within, length-numbered 0 all) in
      let at = entry_of-dos data_disk reserved (unit_at store 272) all file no_list inside in
      let entry : Entry = get_or all file no_list in
      let unit : List ℕ = unit_at store entry.place in
      let size : length unit ≡ 256 = subst (λ (e : Listed). length (unit_at store e.place) ≡ 256) at whole in
      let below : entry.slot < 7 = (on_track store sectors described.catalog).slots file no_list inside in
      let stored : IsStored store entry = each_stored store sectors file no_list inside in
      subst (λ (e : Listed). DescribesDos data_disk reserved (slice_set store e.place (write (unit_at store e.place) e.slot))
      (rewritten (dos_directory data_disk reserved (unit_at store 272) all) file (new_path e.path) (new_bytes e.bytes))) (sym at)
      (rewritten_at data_disk reserved store sectors described.size described.geometry described.catalog file inside entry refl
      (write unit entry.slot) (new_path (take 30 (drop 3 entry.bytes))) (new_bytes (drop 2 entry.bytes))
      (is.long unit entry.slot below size) (is.same unit entry.slot below size)
      (is.path unit entry.slot below size ∙ ap (λ (e : Entry). new_path (take 30 (drop 3 e.bytes))) (sym stored))
      (is.bytes unit entry.slot below size ∙ ap (λ (e : Entry). new_bytes (drop 2 e.bytes)) (sym stored))))

-- the kind
module _ (kind : ℕ) where
  kind_other : (unit : List ℕ) (slot byte : ℕ) → byte ≢ slot_offset slot + 0x02 → slice_index (slice_set unit (slot_offset slot + 0x02) kind) byte ≡ slice_index unit byte
  kind_other unit slot byte differ = get_or-set_other unit (slot_offset slot + 0x02) byte kind 0 differ

  kind_bytes : (unit : List ℕ) (slot : ℕ) → slot < 7 → length unit ≡ 256
      → drop 2 (window (slice_set unit (slot_offset slot + 0x02) kind) slot) ≡ with_kind kind (drop 2 (window unit slot))
  kind_bytes unit slot below whole =
      let new : List ℕ = slice_set unit (slot_offset slot + 0x02) kind in
      let size : length new ≡ length unit = length-set unit (slot_offset slot + 0x02) kind in
      let long : length (drop 2 (window new slot)) ≡ 33 = length-window new (slot_offset slot) 35 2 (omega (arith, size, whole, below)) in
      let long' : length (drop 2 (window unit slot)) ≡ 33 = length-window unit (slot_offset slot) 35 2 (omega (arith, whole, below)) in
      ext_get_or 0 (drop 2 (window new slot)) (with_kind kind (drop 2 (window unit slot)))
      (omega (arith, long, long', length-set (drop 2 (window unit slot)) 0 kind))
      (λ i within.
      let low : 2 + i < 35 = omega (arith, within, long) in
      window_cell new (slot_offset slot) 35 2 i low
      ∙ elim (cases_eq i 0) [
        | inl first ↦
            ap (slice_index new) (omega (arith, first)) ∙ get_or-set_same unit (slot_offset slot + 0x02) kind 0 (omega (arith, whole, below))
            ∙ sym (ap (λ n. get_or (with_kind kind (drop 2 (window unit slot))) n 0) first ∙ get_or-set_same (drop 2 (window unit slot)) 0 kind 0 (omega (arith, long')))
        | inr later ↦
            kind_other unit slot (slot_offset slot + (2 + i)) (λ e. later (omega (arith, e)))
            ∙ sym (get_or-set_other (drop 2 (window unit slot)) 0 i kind 0 later ∙ window_cell unit (slot_offset slot) 35 2 i low)
      ])

  kind_is_rewrite : IsRewrite (λ unit slot. slice_set unit (slot_offset slot + 0x02) kind) (λ path. path) (with_kind kind)
  kind_is_rewrite = record {
    long = λ unit slot below whole. length-set unit (slot_offset slot + 0x02) kind;
    same = λ unit slot below whole byte apart. kind_other unit slot byte (λ e. elim apart [ inl low ↦ omega (arith, low, e) | inr high ↦ omega (arith, high, e) ]);
    path = λ unit slot below whole.
        ap (take 30) (same_window unit (slice_set unit (slot_offset slot + 0x02) kind) (slot_offset slot) 35 3 (length-set unit (slot_offset slot + 0x02) kind)
        (λ byte low high. kind_other unit slot byte (λ e. omega (arith, e, low))));
    bytes = kind_bytes;
  }

  pub kind_rewrites : (data_disk : Bool) (reserved : List Bool) (store : List (List ℕ)) (directory : Directory) (file : ℕ)
      → DescribesDos data_disk reserved store directory → file < entries directory → length (sector_of_entry directory store file) ≡ 256
      → DescribesDos data_disk reserved (kind_written directory store file kind)
      (rewritten directory file (entry_of directory file).path (with_kind kind (entry_of directory file).bytes))
  kind_rewrites data_disk reserved store directory file described =
      rewrites data_disk reserved store (λ unit slot. slice_set unit (slot_offset slot + 0x02) kind) (λ path. path) (with_kind kind) kind_is_rewrite directory file described

-- the name
module _ (name : List ℕ) (long_name : length name ≡ 30) where
  name_fits : (unit : List ℕ) (slot : ℕ) → slot < 7 → length unit ≡ 256 → slot_offset slot + 0x03 + length name ≤ length unit
  name_fits unit slot below whole = omega (arith, long_name, below, whole)

  name_outside : (unit : List ℕ) (slot : ℕ) → slot < 7 → length unit ≡ 256
      → IsSameOutside unit (with_bytes (slot_offset slot + 0x03) name unit) (slot_offset slot + 2) (slot_offset slot + 35)
  name_outside unit slot below whole byte apart = elim apart [
    | inl low ↦ byte_before unit (slot_offset slot + 0x03) name (name_fits unit slot below whole) byte (omega (arith, low))
    | inr high ↦ byte_behind unit (slot_offset slot + 0x03) name (name_fits unit slot below whole) byte (omega (arith, high, long_name))
  ]

  with_name_is : (bytes : List ℕ) → with_bytes 1 name bytes ≡ with_name name bytes
  with_name_is bytes = let same : 1 + length name ≡ 31 = omega (arith, long_name) in ap (λ n. take 1 bytes ++ name ++ drop n bytes) same

  module _ (unit : List ℕ) (slot : ℕ) (below : slot < 7) (whole : length unit ≡ 256) where
    abbrev new : List ℕ
    new = with_bytes (slot_offset slot + 0x03) name unit

    abbrev old_bytes : List ℕ
    old_bytes = drop 2 (window unit slot)

    fits : slot_offset slot + 0x03 + length name ≤ length unit
    fits = name_fits unit slot below whole

    size : length new ≡ length unit
    size = length-with_bytes unit (slot_offset slot + 0x03) name fits

    long_old : length old_bytes ≡ 33
    long_old = length-window unit (slot_offset slot) 35 2 (omega (arith, whole, below))

    long_new : length (drop 2 (window new slot)) ≡ 33
    long_new = length-window new (slot_offset slot) 35 2 (omega (arith, size, whole, below))

    fits_old : 1 + length name ≤ length old_bytes
    fits_old = omega (arith, long_name, long_old)

    byte_of_name : (i : ℕ) → i < 30 → slice_index new (slot_offset slot + (3 + i)) ≡ slice_index name i
    byte_of_name i inside =
        byte_within unit (slot_offset slot + 0x03) name fits (slot_offset slot + (3 + i)) (omega arith) (omega (arith, inside, long_name))
        ∙ ap (slice_index name) (omega arith)

    cell : (i : ℕ) → i < 33 → slice_index new (slot_offset slot + (2 + i)) ≡ slice_index (with_bytes 1 name old_bytes) i
    cell i within = elim (cases_lt i 1) [
      | inl first ↦
          byte_before unit (slot_offset slot + 0x03) name fits (slot_offset slot + (2 + i)) (omega (arith, first))
          ∙ sym (byte_before old_bytes 1 name fits_old i first ∙ window_cell unit (slot_offset slot) 35 2 i (omega (arith, within)))
      | inr later ↦ elim (cases_lt i 31) [
        | inl inside ↦
            byte_within unit (slot_offset slot + 0x03) name fits (slot_offset slot + (2 + i)) (omega (arith, later)) (omega (arith, inside, long_name))
            ∙ ap (slice_index name) (omega (arith, later))
            ∙ sym (byte_within old_bytes 1 name fits_old i (omega (arith, later)) (omega (arith, inside, long_name)))
        | inr behind ↦
            byte_behind unit (slot_offset slot + 0x03) name fits (slot_offset slot + (2 + i)) (omega (arith, behind, long_name))
            ∙ sym (byte_behind old_bytes 1 name fits_old i (omega (arith, behind, long_name)) ∙ window_cell unit (slot_offset slot) 35 2 i (omega (arith, within)))
      ]
    ]

    name_bytes : drop 2 (window new slot) ≡ with_name name old_bytes
    name_bytes =
        ext_get_or 0 (drop 2 (window new slot)) (with_bytes 1 name old_bytes) (omega (arith, long_new, long_old, length-with_bytes old_bytes 1 name fits_old))
        (λ i within.
        let low : i < 33 = omega (arith, within, long_new) in
        window_cell new (slot_offset slot) 35 2 i (omega (arith, low)) ∙ cell i low)
        ∙ with_name_is old_bytes

    name_path : take 30 (drop 3 (window new slot)) ≡ name
    name_path =
        let long : length (drop 3 (window new slot)) ≡ 32 = length-window new (slot_offset slot) 35 3 (omega (arith, size, whole, below)) in
        let length_is : length (take 30 (drop 3 (window new slot))) ≡ 30 = length-take-le 30 (drop 3 (window new slot)) (omega (arith, long)) in
        ext_get_or 0 (take 30 (drop 3 (window new slot))) name (omega (arith, length_is, long_name))
        (λ i within.
        let low : i < 30 = omega (arith, within, length_is) in
        get_or-take 30 (drop 3 (window new slot)) i 0 low ∙ window_cell new (slot_offset slot) 35 3 i (omega (arith, low)) ∙ byte_of_name i low)

  name_is_rewrite : IsRewrite (λ unit slot. with_bytes (slot_offset slot + 0x03) name unit) (λ path. name) (with_name name)
  name_is_rewrite = record {
    long = size;
    same = name_outside;
    path = name_path;
    bytes = name_bytes;
  }

  pub name_rewrites : (data_disk : Bool) (reserved : List Bool) (store : List (List ℕ)) (directory : Directory) (file : ℕ)
      → DescribesDos data_disk reserved store directory → file < entries directory → length (sector_of_entry directory store file) ≡ 256
      → DescribesDos data_disk reserved (name_written directory store file name)
      (rewritten directory file name (with_name name (entry_of directory file).bytes))
  name_rewrites data_disk reserved store directory file described =
      rewrites data_disk reserved store (λ unit slot. with_bytes (slot_offset slot + 0x03) name unit) (λ path. name) (with_name name) name_is_rewrite directory file described
