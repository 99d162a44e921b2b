-- A file's entry erased: the directory of the volume was the new one with that entry.
use Rattle.std.specs.Prelude.{◌≡◌, ◌<◌, ◌≤◌, ◌==◌, ℕ, Bool, true, false, List, length, map, slice_set, Contains}
use Rattle.std.proofs.Common.{sym, ◌∙◌, ap, subst, arith, get_or, inl, inr}
use Rattle.std.proofs.lemmas.Bool.{cases_eq, cases_lt}
use Rattle.std.proofs.lemmas.List.{length-map}
use Rattle.a2_device.specs.Device.{unit_at}
use Rattle.pro_dir.specs.declared.entry.Entry.{Entry}
use Rattle.pro_dir.specs.Entry.{is_directory as is_subdirectory, key_of, slot_bytes, storage_of}
use Rattle.pro_dir.specs.Volume.{Directory as Tree, total_blocks}
use Rattle.pro_dir.specs.Walk.{IsKeyOf}
use Rattle.pro_dir.specs.Writes.{slot_offset}
use Rattle.pro_dir.specs.lemmas.VolumeLaws.{one_directory}
use Rattle.vol_format.specs.Directory.{Directory, Listed, entries, entry_of, is_directory, no_entry}
use Rattle.pro_format.specs.Pro.{DescribesPro, no_slot}
use Rattle.pro_format.specs.lemmas.ProDescribed.{all_apart, each_stored}
use Rattle.vol_laws.specs.Entered.{HasSameRest}
use Rattle.vol_laws.specs.Inserted.{inserted, shifted_entry}
use Rattle.pro_format.specs.Filled.{filled_entry, pro_new}
use Rattle.pro_format.specs.Slots.{HasOneEntryLess}
use Rattle.pro_format.proofs.EmptiedDirectories.{HasProLeft, pro_emptied}
use Rattle.pro_format.proofs.EntryNumbers.{entry_is, number_inside}
use Rattle.pro_format.proofs.EntrySlots.{HasSlot, each_slot_of}
use Rattle.vol_laws.proofs.Inserting.{insert_here, length-insert_at}
use Rattle.pro_format.proofs.Owners.{no_header_of_volume, no_key_of_entries}
use Rattle.pro_format.proofs.RewrittenEntries.{file_listed}
use Rattle.pro_format.proofs.SlotLaws.{insert_had, slot_below, slot_inside}
use Rattle.pro_format.proofs.SlotWrites.{empties}
use Rattle.pro_format.proofs.SystemBlocks.{same_rest}

module _ (reserved : List Bool) (store : List (List ℕ)) (directory : Directory) (described : DescribesPro reserved store directory) (file : ℕ) where
  abbrev tree : Tree
  tree = described.tree

  abbrev all : List Entry
  all = described.tree.entries

  abbrev total : ℕ
  total = total_blocks described.tree.header

  abbrev entry : Entry
  entry = get_or all file no_slot

  abbrev after : List (List ℕ)
  after = slice_set store entry.place (slice_set (unit_at store entry.place) (slot_offset entry.slot) 0)

  module _ (inside : file < length all) (is_file : (storage_of entry.bytes == 13) ≡ false) (whole : length (unit_at store entry.place) ≡ 512) where
    here : HasSlot store all entry
    here = each_slot_of store tree.blocks all described.described.tree file no_slot inside

    bytes_are : entry.bytes ≡ slot_bytes (unit_at store entry.place) entry.slot
    bytes_are = (each_stored store tree.blocks all described.described.tree file no_slot inside).bytes

    below : entry.place < length store
    below = slot_below store tree.blocks all described.described.tree entry.directory entry.place entry.slot here.key here.is

    used_there : (storage_of (slot_bytes (unit_at store entry.place) entry.slot) == 0) ≡ false
    used_there = ap (λ bs. storage_of bs == 0) (sym bytes_are) ∙ here.used

    file_there : (storage_of (slot_bytes (unit_at store entry.place) entry.slot) == 13) ≡ false
    file_there = ap (λ bs. storage_of bs == 13) (sym bytes_are) ∙ is_file

    left : HasProLeft after store entry.place entry.slot (empties store entry.place entry.slot below here.is.below whole used_there file_there) reserved directory all
    left = pro_emptied after store entry.place entry.slot (empties store entry.place entry.slot below here.is.below whole used_there file_there)
        (no_header_of_volume store tree.blocks all described.described.tree entry.place entry.slot entry.directory here.is.own here.key here.is.run here.is.has here.is.no_header)
        reserved directory described
        (slot_inside store tree.blocks all described.described.tree entry.directory entry.place entry.slot here.key here.is)
        (no_key_of_entries store tree.blocks all described.described.tree entry.place entry.slot entry.directory here.is.own here.key here.is.run here.is.has here.is.no_header)

    abbrev gone : Entry
    gone = filled_entry store entry.place entry.slot left.key

    at_is : get_or all left.at no_slot ≡ gone
    at_is = ap (λ es. get_or es left.at no_slot) left.entries_are ∙ insert_here left.at gone left.described.tree.entries no_slot left.inside

    at_inside : left.at < length all
    at_inside = let low = left.inside in omega (arith, low, ap length left.entries_are, length-insert_at left.at gone left.described.tree.entries)

    -- the entry that left has the number of the one that was erased, as no two stand in one slot
    same_number : left.at ≡ file
    same_number = elim (cases_eq left.at file) [
      | inl same ↦ same
      | inr differ ↦ elim (cases_lt left.at file) [
        | inl before ↦ absurd (all_apart store tree.blocks all described.described.tree left.at file no_slot before inside (ap (λ (e : Entry). e.place) at_is) (ap (λ (e : Entry). e.slot) at_is))
        | inr not_before ↦ absurd (all_apart store tree.blocks all described.described.tree file left.at no_slot (omega (arith, differ, not_before)) at_inside
            (sym (ap (λ (e : Entry). e.place) at_is)) (sym (ap (λ (e : Entry). e.slot) at_is)))
      ]
    ]

    abbrev leaver : Listed
    leaver = pro_new store entry.place entry.slot left.described.tree left.key left.at

    with_it : directory ≡ inserted left.few file leaver
    with_it = left.is ∙ ap (λ n. inserted left.few n leaver) same_number

    within : file ≤ entries left.few
    within = let low = left.within in omega (arith, low, same_number)

    leaver_is : entry_of directory file ≡ leaver
    leaver_is = ap (λ (d : Directory). entry_of d file) with_it
        ∙ insert_here file leaver (map (shifted_entry file) left.few.listed) no_entry (omega (arith, within, length-map left.few.listed (shifted_entry file)))

    rest : HasSameRest (inserted left.few file leaver) store after
    rest = subst (λ (d : Directory). HasSameRest d store after) with_it (same_rest reserved store directory described entry.place (slice_set (unit_at store entry.place) (slot_offset entry.slot) 0)
        (slot_inside store tree.blocks all described.described.tree entry.directory entry.place entry.slot here.key here.is))

    erased : HasOneEntryLess reserved all directory store after file
    erased = record {
      few = left.few;
      described = left.described;
      within = within;
      is = with_it ∙ ap (inserted left.few file) (sym leaver_is);
      rest = record { size = rest.size; units = rest.units };
      directories = λ later other describes is_other.
          let now = one_directory after left.described.tree later left.described.described describes in
          subst (λ (t : Tree). IsKeyOf t.entries other) (sym now) (elim is_other [
            | inl volume ↦ inl volume
            | inr (subdirectory, has, is, same) ↦ elim (insert_had left.at gone left.described.tree.entries subdirectory (subst (λ es. Contains es subdirectory) left.entries_are has)) [
              | inl file_entry ↦ absurd (no_file subdirectory is file_entry)
              | inr kept ↦ inr (subdirectory, kept, is, same)
            ]
          ]);
    }
      where
        no_file : (subdirectory : Entry) → is_subdirectory subdirectory ≡ true → subdirectory ≡ gone → ⊥
        no_file subdirectory is same =
            let out : is_subdirectory subdirectory ≡ false = ap is_subdirectory same ∙ file_there in
            cc (is, out)

  pub pro_leaves : file < entries directory → is_directory (entry_of directory file) ≡ false → length (unit_at store (entry_of directory file).place) ≡ 512
      → HasOneEntryLess reserved all directory store
      (slice_set store (entry_of directory file).place (slice_set (unit_at store (entry_of directory file).place) (slot_offset (entry_of directory file).slot) 0)) file
  pro_leaves within is_file whole =
      let inside = number_inside reserved store directory described file within in
      let at = entry_is reserved store directory described file inside in
      subst (λ (e : Listed). HasOneEntryLess reserved all directory store (slice_set store e.place (slice_set (unit_at store e.place) (slot_offset e.slot) 0)) file) (sym at)
      (erased inside (file_listed total file (storage_of entry.bytes) (key_of entry) (subst (λ (e : Listed). is_directory e ≡ false) at is_file))
      (subst (λ (e : Listed). length (unit_at store e.place) ≡ 512) at whole))
