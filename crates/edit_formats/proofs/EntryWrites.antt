-- What is written into the slot of an entry that was read.
use Rattle.std.proofs.Common.{◌≡◌, ◌<◌, ◌+◌, ◌∙◌, ℕ, Bool, List, get_or, sym, ap, arith}
use Rattle.std.specs.Prelude.{slice_index, slice_index_or, slice_set}
use Rattle.std.proofs.lemmas.List.{get_or-drop, get_or_default}
use Rattle.dos_catalog.specs.declared.entry.Entry.{Entry as CatalogEntry}
use Rattle.dos_catalog.specs.Writes.{slot_offset as catalog_offset}
use Rattle.pro_dir.specs.declared.entry.Entry.{Entry}
use Rattle.pro_dir.specs.Volume.{Directory as Tree}
use Rattle.pro_dir.specs.Writes.{slot_offset}
use Rattle.vol_format.specs.Directory.{Listed, entries, entry_of}
use Rattle.dos_format.specs.Dos.{dos_directory}
use Rattle.pro_format.specs.Pro.{no_slot, directory_with}
use Rattle.file_formats.specs.lemmas.ProShown.{behind_key}
use Rattle.file_formats.proofs.DosEntries.{entry_read}
use Rattle.file_formats.proofs.ProEntries.{in_shown, listed}
use Rattle.edit_formats.specs.DosEdits.{dos_edits, dos_locked}
use Rattle.edit_formats.specs.ProEdits.{pro_edits, pro_locked}

-- the kind of an entry of the catalog
pub lock-dos : (data_disk : Bool) (reserved : List Bool) (vtoc : List ℕ) (all shown : List CatalogEntry) (file : ℕ) (e : CatalogEntry) → shown ≡ all
    → file < entries (dos_directory data_disk reserved vtoc all) → (on : Bool) (kind : ℕ) (unit new : List ℕ)
    → kind ≡ dos_locked on (slice_index (get_or shown file e).bytes 0x02)
    → new ≡ slice_set unit (catalog_offset (get_or shown file e).slot + 0x02) kind
    → new ≡ dos_edits.with_lock on (entry_of (dos_directory data_disk reserved vtoc all) file) unit
lock-dos data_disk reserved vtoc all shown file e is inside on kind unit new kind_is new_is =
    new_is
    ∙ ap (slice_set unit (catalog_offset (get_or shown file e).slot + 0x02)) (kind_is ∙ ap (dos_locked on) (sym (get_or-drop 2 (get_or shown file e).bytes 0 0)))
    ∙ ap (λ (entry : Listed). dos_edits.with_lock on entry unit) (sym (entry_read data_disk reserved vtoc all shown file e is inside))

-- the access bits of an entry of a directory
pub lock-pro : (system : List Bool) (tree : Tree) (units : List (List ℕ)) (file : ℕ) (inside : file < entries (directory_with system tree units))
    (shown : List Entry) (e : Entry) → shown ≡ tree.entries → (on : Bool) (access : ℕ) (unit new : List ℕ)
    → access ≡ pro_locked on (slice_index (get_or shown file e).bytes 0x1e)
    → new ≡ slice_set unit (slot_offset (get_or shown file e).slot + 0x1e) access
    → new ≡ pro_edits.with_lock on (entry_of (directory_with system tree units) file) unit
lock-pro system tree units file inside shown e is on access unit new access_is new_is =
    new_is
    ∙ ap (slice_set unit (slot_offset (get_or shown file e).slot + 0x1e)) access_is
    ∙ ap (λ (entry : Entry). slice_set unit (slot_offset entry.slot + 0x1e) (pro_locked on (slice_index entry.bytes 0x1e))) same
    ∙ ap (λ byte. slice_set unit (slot_offset stored.slot + 0x1e) (pro_locked on byte)) (sym (behind_key 0x1c 0x1e stored.bytes (omega arith) (omega arith)))
    ∙ ap (λ (entry : Listed). pro_edits.with_lock on entry unit) (sym (listed system tree units file inside))
  where
    stored : Entry
    stored = slice_index_or tree.entries file no_slot

    same : get_or shown file e ≡ stored
    same = get_or_default shown file e no_slot (in_shown system tree units file inside shown is) ∙ ap (λ es. slice_index_or es file no_slot) is
