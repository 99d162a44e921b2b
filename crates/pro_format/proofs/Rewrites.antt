-- A file's entry rewritten, by its number in the directory of the volume.
use Rattle.std.specs.Prelude.{◌≡◌, ◌<◌, ℕ, Bool, false, List, length, slice_set}
use Rattle.std.proofs.Common.{refl, sym, ◌∙◌, ap, arith, subst, get_or}
use Rattle.a2_device.specs.Device.{unit_at}
use Rattle.pro_dir.specs.declared.entry.Entry.{Entry}
use Rattle.pro_dir.specs.Entry.{key_of, name_of, slot_bytes, storage_of}
use Rattle.pro_dir.specs.Paths.{name_below, path_of}
use Rattle.pro_dir.specs.Volume.{total_blocks}
use Rattle.pro_dir.specs.Writes.{slot_offset}
use Rattle.vol_format.specs.Directory.{Directory, Listed, is_directory, entries, entry_of}
use Rattle.pro_format.specs.Pro.{DescribesPro, map_of, no_slot, pro_directory, pro_entry, without_key}
use Rattle.pro_format.specs.lemmas.ProDescribed.{each_stored}
use Rattle.pro_format.specs.lemmas.ProDirectory.{length-listed, listed_at}
use Rattle.vol_laws.specs.Inserted.{rewritten}
use Rattle.pro_format.specs.Rewritten.{IsRewrite}
use Rattle.pro_format.proofs.RewrittenEntries.{file_listed, rewritten_at}

module _ (write : ℕ → List ℕ → List ℕ) (path : List ℕ → List ℕ → List ℕ) (bytes : List ℕ → List ℕ) (rewrite : IsRewrite write path bytes)
    (reserved : List Bool) (store : List (List ℕ)) where
  -- what is to be proved of a directory and an entry of it
  abbrev Gives : Directory → ℕ → Listed → Type 0
  Gives directory file entry = DescribesPro reserved (slice_set store entry.place (write (slot_offset entry.slot) (unit_at store entry.place)))
      (rewritten directory file (path entry.path entry.bytes) (bytes entry.bytes))

  abbrev Rewrites : ℕ → Directory → Type 0
  Rewrites file directory = file < entries directory → is_directory (entry_of directory file) ≡ false → length (unit_at store (entry_of directory file).place) ≡ 512
      → Gives directory file (entry_of directory file)

  module _ (directory : Directory) (described : DescribesPro reserved store directory) (file : ℕ) where
    abbrev total : ℕ
    total = total_blocks described.tree.header

    abbrev all : List Entry
    all = described.tree.entries

    abbrev said : Directory
    said = pro_directory reserved described.tree (map_of store described.tree)

    abbrev entry : Entry
    entry = get_or all file no_slot

    at_entry : file < length all → is_directory (pro_entry total file (path_of all file) entry) ≡ false → length (unit_at store entry.place) ≡ 512
        → Gives said file (pro_entry total file (path_of all file) entry)
    at_entry inside is_file whole =
        let stored = each_stored store described.tree.blocks all described.described.tree file no_slot inside in
        let unit = unit_at store entry.place in
        let same : slot_bytes unit entry.slot ≡ entry.bytes = sym stored.bytes in
        let bytes_are : without_key (slot_bytes (write (slot_offset entry.slot) unit) entry.slot) ≡ bytes (without_key entry.bytes) =
        rewrite.bytes_are unit entry.slot stored.slot whole ∙ ap (λ bs. bytes (without_key bs)) same in
        subst (λ bs. DescribesPro reserved (slice_set store entry.place (write (slot_offset entry.slot) unit)) (rewritten said file (path (path_of all file) (without_key entry.bytes)) bs)) bytes_are
        (rewritten_at reserved store directory described file inside (write (slot_offset entry.slot) unit) (path (path_of all file) (without_key entry.bytes)) entry refl
        (file_listed total file (storage_of entry.bytes) (key_of entry) is_file)
        (rewrite.rewritten unit entry.slot stored.slot whole)
        (λ above is. ap (λ p. path p (without_key entry.bytes)) is
        ∙ ap (λ bs. path (name_below above (name_of bs)) (without_key bs)) (sym same)
        ∙ rewrite.path_is unit entry.slot above stored.slot whole))

    at_number : Rewrites file said
    at_number within is_file whole =
        let inside : file < length all = omega (arith, within, length-listed total all) in
        let at = listed_at total all file inside in
        subst (Gives said file) (sym at)
        (at_entry inside (subst (λ (e : Listed). is_directory e ≡ false) at is_file) (subst (λ (e : Listed). length (unit_at store e.place) ≡ 512) at whole))

    pub entry_rewritten : Rewrites file directory
    entry_rewritten = subst (Rewrites file) (sym described.says) at_number
