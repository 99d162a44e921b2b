-- The entry of an empty directory in a free slot of a directory: what the directory of the volume is then.
use Rattle.std.specs.Prelude.{◌≡◌, ◌≢◌, ◌≤◌, ◌<◌, ◌+◌, ◌==◌, ℕ, zero, suc, Bool, true, false, List, [], ◌∷◌, Option, length, slice_set, All, Contains}
use Rattle.std.proofs.Common.{refl, sym, ◌∙◌, ap, subst, arith, get_or, inl, inr}
use Rattle.a2_device.specs.Device.{unit_at}
use Rattle.pro_dir.specs.Entry.{name_of, slot_bytes, storage_of, word}
use Rattle.pro_dir.specs.Paths.{name_below}
use Rattle.pro_dir.specs.Volume.{Directory as Tree, map_blocks, map_first, total_blocks}
use Rattle.pro_dir.specs.Walk.{IsKeyOf}
use Rattle.pro_dir.specs.Writes.{slot_offset, with_bytes}
use Rattle.pro_dir.specs.lemmas.VolumeLaws.{one_directory}
use Rattle.pro_tree.specs.Reach.{pro_root}
use Rattle.vol_format.specs.Directory.{Directory, is_system}
use Rattle.pro_format.specs.Pro.{DescribesPro, without_key}
use Rattle.pro_format.specs.lemmas.ProLaws.{total_is}
use Rattle.pro_format.specs.lemmas.ProMarks.{block_in_system, map_in_system, places_is}
use Rattle.vol_laws.specs.Inserted.{insert_at}
use Rattle.pro_format.specs.Filled.{filled_entry, pro_new}
use Rattle.pro_format.specs.Slots.{IsFreeSlotOf, IsPathOfDirectory}
use Rattle.pro_format.proofs.Alike.{directory_kept, entries_kept}
use Rattle.pro_format.proofs.EntrySlots.{each_slot_of}
use Rattle.pro_format.proofs.NewPaths.{new_path}
use Rattle.pro_format.proofs.OneKey.{key_run, path_known}
use Rattle.pro_format.proofs.Owners.{one_directory_of, own_key, no_header_of_volume, no_key_of_entries}
use Rattle.pro_format.proofs.SlotLaws.{insert_has, key_of_before, key_of_path, slot_inside, slot_below}
use Rattle.pro_format.proofs.SlotWrites.{alike, but_written, written_slot}
use Rattle.pro_format.proofs.SystemBlocks.{same_rest}
use Rattle.file_edits.specs.Leaf.{IsEmptyDirectory, IsLeafEntered, IsLeafEntry, HasOneDirectoryMore}
use Rattle.file_edits.proofs.LeafDirectories.{describes_grown, pro_grown}
use Rattle.file_edits.proofs.LeafPaths.{IsElsewhere}

module _ (reserved : List Bool) (store : List (List ℕ)) (directory : Directory) (described : DescribesPro reserved store directory) (key place slot leaf : ℕ) (above : Option (List ℕ))
    (path_of_key : IsPathOfDirectory described.tree.entries key above) (free : IsFreeSlotOf store key place slot) (whole : length (unit_at store place) ≡ 512)
    (bytes : List ℕ) (new : IsLeafEntry leaf bytes) (outside : is_system directory leaf ≡ false) (inside : leaf < directory.places) (empty : IsEmptyDirectory store leaf) where
  abbrev tree : Tree
  tree = described.tree

  abbrev total : ℕ
  total = total_blocks described.tree.header

  abbrev after : List (List ℕ)
  after = slice_set store place (with_bytes (slot_offset slot) bytes (unit_at store place))

  is_key : IsKeyOf tree.entries key
  is_key = key_of_path tree.entries key above path_of_key

  place_below : place < length store
  place_below = slot_below store tree.blocks tree.entries described.described.tree key place slot is_key free.is

  place_has : Contains tree.blocks place
  place_has = slot_inside store tree.blocks tree.entries described.described.tree key place slot is_key free.is

  there : slot_bytes (unit_at after place) slot ≡ bytes
  there = written_slot store place slot bytes place_below free.is.below whole new.size

  -- the new block is none of the tree, and none of the map
  leaf_new : Contains tree.blocks leaf → ⊥
  leaf_new has = let inside' = block_in_system reserved store directory described leaf has in cc (inside', outside)

  leaf_apart : leaf ≢ place
  leaf_apart same = leaf_new (subst (Contains tree.blocks) (sym same) place_has)

  no_map : (block : ℕ) → map_first tree.header ≤ block → block < map_first tree.header + map_blocks (length store) → block ≢ leaf
  no_map block from below same =
      let low : block < map_first tree.header + map_blocks total = omega (arith, below, ap map_blocks (total_is reserved store directory described)) in
      let inside' = subst (λ b. is_system directory b ≡ true) same (map_in_system reserved store directory described block from low) in
      cc (inside', outside)

  -- no entry stands in it
  elsewhere : All (IsElsewhere leaf) tree.entries
  elsewhere k d within same =
      let entry = get_or tree.entries k d in
      let at = each_slot_of store tree.blocks tree.entries described.described.tree k d within in
      let its = key_run store tree.blocks tree.entries described.described.tree entry.directory at.key in
      let has : Contains tree.blocks entry.directory =
      slot_inside store tree.blocks tree.entries described.described.tree entry.directory entry.directory 1 at.key (record {
        own = its.0;
        run = its.1;
        has = own_key store entry.directory its.0 its.1;
        below = omega arith;
        no_header = λ first same'. omega (arith, first);
      }) in
      leaf_new (subst (Contains tree.blocks) same has)

  entered : IsLeafEntered store after place slot leaf
  entered =
      let old = unit_at store place in
      let fits : slot_offset slot + length bytes ≤ length old = omega (arith, new.size, free.is.below, whole) in
      let same = alike store place (with_bytes (slot_offset slot) bytes old) place_below slot (slot_offset slot) (slot_offset slot + length bytes)
      (but_written old bytes (slot_offset slot) fits) (omega arith) (omega (arith, new.size)) in
      let some : (storage_of bytes == 0) ≡ false = ap (λ s. s == 0) new.storage in
      let kind : (storage_of bytes == 13) ≡ true = ap (λ s. s == 13) new.storage in
      record {
        alike = same;
        below = free.is.below;
        unused = ap (λ s. s == 0) free.unused;
        used = ap (λ b. storage_of b == 0) there ∙ some;
        directory = ap (λ b. storage_of b == 13) there ∙ kind;
        key = ap (λ b. word b 0x11) there ∙ new.key;
        leaf_is = record {
          is = directory_kept store after place slot same 0x0e leaf (leaf ∷ []) (λ first here. leaf_apart (sym here)) empty.is;
          empty = entries_kept store after place slot same leaf (leaf ∷ []) (λ has. only has) ∙ empty.empty;
        };
      }
    where
      only : Contains (leaf ∷ []) place → ⊥
      only (zero, within, here) = leaf_apart here
      only (suc k, within, here) = absurd (omega (arith, within))

  pub directory_enters : HasOneDirectoryMore reserved tree.entries directory store after above place slot leaf bytes
  directory_enters =
      let is = free.is in
      let of_volume = no_header_of_volume store tree.blocks tree.entries described.described.tree place slot key is.own is_key is.run is.has is.no_header in
      let grown = pro_grown store after place slot leaf entered of_volume reserved directory described place_has
      (no_key_of_entries store tree.blocks tree.entries described.described.tree place slot key is.own is_key is.run is.has is.no_header)
      leaf_new no_map (omega (arith, inside, places_is reserved store directory described)) elsewhere in
      let at = grown.one.at in
      let its = grown.one.key in
      let same : its ≡ key =
      one_directory_of store tree.blocks tree.entries described.described.tree its key grown.one.own is.own place
      (key_of_before tree.entries at its grown.one.of) is_key grown.one.run is.run grown.one.has is.has in
      record {
        at = at;
        within = grown.within;
        entry = pro_new after place slot tree its at;
        described = grown.described;
        place_is = refl;
        slot_is = refl;
        path_is = new_path [] tree.entries at (filled_entry after place slot its) grown.one.within
            ∙ ap (λ p. name_below p (name_of (slot_bytes (unit_at after place) slot)))
            (path_known store tree.blocks tree.entries described.described.tree at its above grown.one.of (subst (λ k. IsPathOfDirectory tree.entries k above) (sym same) path_of_key))
            ∙ ap (λ bs. name_below above (name_of bs)) there;
        bytes_are = ap without_key there;
        root_is = ap (λ bs. pro_root total at (storage_of bs) (word bs 0x11)) there ∙ ap (λ s. pro_root total at s (word bytes 0x11)) new.storage;
        rest = same_rest reserved store directory described place (with_bytes (slot_offset slot) bytes (unit_at store place)) place_has;
        empty = entered.leaf_is;
        directories = λ later other describes is_other.
            let now = one_directory after
            (record tree { blocks = insert_at grown.one.block leaf tree.blocks; entries = insert_at at (filled_entry after place slot its) tree.entries }) later
            (describes_grown store after place slot leaf entered of_volume tree described.described no_map grown.one) describes in
            subst (λ (t : Tree). IsKeyOf t.entries other) (sym now) (elim is_other [
              | inl volume ↦ inl volume
              | inr entry ↦ inr (entry.0, insert_has at (filled_entry after place slot its) tree.entries entry.0 entry.1, entry.2, entry.3)
            ]);
      }
