-- A new file's entry in a free slot of a directory: what the directory of the volume is then.
use Rattle.std.specs.Prelude.{◌≡◌, ◌⊎◌, ◌<◌, ◌==◌, ℕ, zero, suc, Bool, true, false, List, [], ◌∷◌, Option, Some, None, length, slice_set, Contains}
use Rattle.std.proofs.Common.{refl, sym, ◌∙◌, ap, subst, arith, get_or, inl, inr}
use Rattle.std.proofs.lemmas.Bool.Decides.{nat_tests}
use Rattle.std.proofs.lemmas.List.Elements.{Contains-append_left, Contains-append_right}
use Rattle.a2_device.specs.Device.{unit_at}
use Rattle.pro_dir.specs.declared.entry.Entry.{Entry}
use Rattle.pro_dir.specs.Entry.{name_of, slot_bytes, storage_of, word}
use Rattle.pro_dir.specs.Paths.{name_below}
use Rattle.pro_dir.specs.Tree.{IsRun, IsTree}
use Rattle.pro_dir.specs.Volume.{Directory as Tree, total_blocks}
use Rattle.pro_dir.specs.Walk.{IsKeyOf}
use Rattle.pro_dir.specs.Writes.{slot_offset, with_bytes}
use Rattle.pro_dir.specs.lemmas.VolumeLaws.{one_directory}
use Rattle.pro_tree.specs.Reach.{pro_root}
use Rattle.vol_format.specs.Directory.{Directory}
use Rattle.pro_format.specs.Pro.{DescribesPro, no_slot, without_key}
use Rattle.pro_format.specs.lemmas.ProDescribed.{block_below}
use Rattle.pro_format.specs.lemmas.ProMarks.{places_is}
use Rattle.vol_laws.specs.Inserted.{insert_at}
use Rattle.pro_format.specs.Filled.{IsDirectoryBefore, filled_entry, pro_new}
use Rattle.pro_format.specs.Slots.{IsFileEntry, IsFreeSlotOf, IsPathOfDirectory, IsSlotOf, HasOneEntryMore}
use Rattle.pro_format.proofs.FilledDirectories.{describes_filled, pro_filled}
use Rattle.pro_format.proofs.NewPaths.{new_path}
use Rattle.pro_format.proofs.OneKey.{contains_number, path_known}
use Rattle.pro_format.proofs.Owners.{in_volume, in_entries, one_directory_of, no_header_of_volume, no_key_of_entries}
use Rattle.pro_format.proofs.SlotWrites.{fills, written_slot}
use Rattle.pro_format.proofs.SystemBlocks.{same_rest}

pub key_of_before : (all : List Entry) (at key : ℕ) → IsDirectoryBefore all at key → IsKeyOf all key
key_of_before all at key (inl volume) = inl volume
key_of_before all at key (inr entry) = inr (entry.1, (entry.0, entry.3.0, entry.3.1), entry.4, entry.5)

-- the directory with a path is one of those that the entries name
pub key_of_path : (all : List Entry) (key : ℕ) (above : Option (List ℕ)) → IsPathOfDirectory all key above → IsKeyOf all key
key_of_path all key None volume = inl volume
key_of_path all key (Some path) of = inr (get_or all of.number no_slot, contains_number all of.number of.inside, of.subdirectory, of.key_is)

-- the entries of a list, and those of the same list with one more
pub insert_has : (i : ℕ) (x : Entry) (xs : List Entry) (y : Entry) → Contains xs y → Contains (insert_at i x xs) y
insert_has zero x xs y has = (suc has.0, omega (arith, has.1), has.2)
insert_has (suc i) x [] y has = absurd (omega (arith, has.1))
insert_has (suc i) x (first ∷ xs) y (zero, within, same) = (0, omega arith, same)
insert_has (suc i) x (first ∷ xs) y (suc k, within, same) =
    let later = insert_has i x xs y (k, omega (arith, within), same) in
    (suc later.0, omega (arith, later.1), later.2)

pub insert_had : (i : ℕ) (x : Entry) (xs : List Entry) (y : Entry) → Contains (insert_at i x xs) y → (y ≡ x) ⊎ Contains xs y
insert_had zero x xs y (zero, within, same) = inl (sym same)
insert_had zero x xs y (suc k, within, same) = inr (k, omega (arith, within), same)
insert_had (suc i) x [] y (zero, within, same) = inl (sym same)
insert_had (suc i) x [] y (suc k, within, same) = absurd (omega (arith, within))
insert_had (suc i) x (first ∷ xs) y (zero, within, same) = inr (0, omega arith, same)
insert_had (suc i) x (first ∷ xs) y (suc k, within, same) = elim (insert_had i x xs y (k, omega (arith, within), same)) [
  | inl new ↦ inl new
  | inr later ↦ inr (suc later.0, omega (arith, later.1), later.2)
]

module _ (store : List (List ℕ)) (blocks : List ℕ) (all : List Entry) (tree : IsTree store blocks all) (key place slot : ℕ) (is_key : IsKeyOf all key) (at : IsSlotOf store key place slot) where
  -- the block of the slot is one of the directories'
  pub slot_inside : Contains blocks place
  slot_inside = subst (λ bs. Contains bs place) (sym tree.listed.is) (elim is_key [
    | inl volume ↦ Contains-append_left tree.listed.own tree.listed.later place
        (in_volume store blocks all tree at.own place (subst (λ k. IsRun store k at.own) volume at.run) at.has)
    | inr entry ↦ Contains-append_right tree.listed.own tree.listed.later place
        (in_entries store blocks all tree entry.0 at.own place entry.1 entry.2 (subst (λ k. IsRun store k at.own) (sym entry.3) at.run) at.has)
  ])

  pub slot_below : place < length store
  slot_below = (block_below store blocks all tree place slot_inside).1

module _ (reserved : List Bool) (store : List (List ℕ)) (directory : Directory) (described : DescribesPro reserved store directory) (key place slot : ℕ) (above : Option (List ℕ))
    (path_of_key : IsPathOfDirectory described.tree.entries key above) (free : IsFreeSlotOf store key place slot) (whole : length (unit_at store place) ≡ 512)
    (bytes : List ℕ) (new : IsFileEntry bytes) where
  abbrev tree : Tree
  tree = described.tree

  abbrev total : ℕ
  total = total_blocks described.tree.header

  abbrev after : List (List ℕ)
  after = slice_set store place (with_bytes (slot_offset slot) bytes (unit_at store place))

  is_key : IsKeyOf tree.entries key
  is_key = key_of_path tree.entries key above path_of_key

  inside : place < length store
  inside = slot_below store tree.blocks tree.entries described.described.tree key place slot is_key free.is

  there : slot_bytes (unit_at after place) slot ≡ bytes
  there = written_slot store place slot bytes inside free.is.below whole new.size

  pub pro_enters : HasOneEntryMore reserved tree.entries directory store after above place slot bytes
  pro_enters =
      let is = free.is in
      let unused : (storage_of (slot_bytes (unit_at store place) slot) == 0) ≡ true = ap (λ s. s == 0) free.unused in
      let used : (storage_of bytes == 0) ≡ false = grind (arith, nat_tests, new.used) in
      let file : (storage_of bytes == 13) ≡ false = grind (arith, nat_tests, new.file) in
      let filled = fills store place slot bytes inside is.below whole new.size unused used file in
      let of_volume = no_header_of_volume store tree.blocks tree.entries described.described.tree place slot key is.own is_key is.run is.has is.no_header in
      let entered = pro_filled store after place slot filled of_volume reserved directory described
      (slot_inside store tree.blocks tree.entries described.described.tree key place slot is_key is)
      (no_key_of_entries store tree.blocks tree.entries described.described.tree place slot key is.own is_key is.run is.has is.no_header) in
      let at = entered.one.at in
      let its = entered.one.key in
      let same : its ≡ key =
      one_directory_of store tree.blocks tree.entries described.described.tree its key entered.one.own is.own place
      (key_of_before tree.entries at its entered.one.of) is_key entered.one.run is.run entered.one.has is.has in
      record {
        at = at;
        within = entered.within;
        entry = pro_new after place slot tree its at;
        described = entered.described;
        place_is = refl;
        slot_is = refl;
        path_is = new_path [] tree.entries at (filled_entry after place slot its) entered.one.within
            ∙ ap (λ p. name_below p (name_of (slot_bytes (unit_at after place) slot)))
            (path_known store tree.blocks tree.entries described.described.tree at its above entered.one.of (subst (λ k. IsPathOfDirectory tree.entries k above) (sym same) path_of_key))
            ∙ ap (λ bs. name_below above (name_of bs)) there;
        bytes_are = ap without_key there;
        root_is = ap (λ bs. pro_root total at (storage_of bs) (word bs 0x11)) there
            ∙ ap (λ n. pro_root n at (storage_of bytes) (word bytes 0x11)) (sym (places_is reserved store directory described));
        rest = same_rest reserved store directory described place (with_bytes (slot_offset slot) bytes (unit_at store place))
            (slot_inside store tree.blocks tree.entries described.described.tree key place slot is_key is);
        directories = λ later other describes is_other.
            let now = one_directory after (record tree { entries = insert_at at (filled_entry after place slot its) tree.entries }) later
            (describes_filled store after place slot filled of_volume tree described.described entered.one) describes in
            subst (λ (t : Tree). IsKeyOf t.entries other) (sym now) (elim is_other [
              | inl volume ↦ inl volume
              | inr entry ↦ inr (entry.0, insert_has at (filled_entry after place slot its) tree.entries entry.0 entry.1, entry.2, entry.3)
            ]);
      }
