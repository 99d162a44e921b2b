-- The entry of a new directory, written once its block stands and its place is marked: the writes were made ready on the volume as it was before.
use Rattle.std.specs.Prelude.{◌≡◌, ◌≢◌, ◌<◌, ◌≤◌, ◌/◌, ◌==◌, ℕ, Bool, true, false, if◌then◌else◌, List, [], ◌∷◌, length, take, slice_index, slice_set, Option, option_map, Contains}
use Rattle.std.proofs.Common.{refl, sym, ◌∙◌, ap, subst, arith, inl, inr}
use Rattle.std.proofs.lemmas.Bool.{cases_eq, eqb-true, eqb-false}
use Rattle.std.proofs.lemmas.List.{map-id, set-set, get_or-set_same, get_or-set_other}
use Rattle.a2_device.specs.Device.{unit_at}
use Rattle.pro_dir.specs.Entry.{entries_of, slot_bytes, storage_of, word}
use Rattle.pro_dir.specs.Paths.{folded, name_below}
use Rattle.pro_dir.specs.Tree.{IsRun, next_of}
use Rattle.pro_dir.specs.Volume.{Directory as Tree}
use Rattle.pro_dir.specs.Walk.{IsKeyOf}
use Rattle.pro_dir.specs.Writes.{slot_offset, with_bytes}
use Rattle.pro_dir.specs.lemmas.VolumeLaws.{one_directory}
use Rattle.vol_format.specs.Directory.{Directory, Listed, entries, is_system}
use Rattle.pro_format.specs.Pro.{DescribesPro, pro_meaning}
use Rattle.pro_format.specs.lemmas.ProChanged.{run_changed}
use Rattle.pro_format.specs.lemmas.ProDescribed.{block_below}
use Rattle.pro_format.specs.lemmas.ProMarks.{block_in_system, describes_same}
use Rattle.vol_laws.specs.Entered.{HasSameRest}
use Rattle.vol_laws.specs.Writes.{Write, store_after}
use Rattle.pro_format.specs.Slots.{HasSameDirectory, IsFreeSlotOf, IsPathOfDirectory, IsSlotOf}
use Rattle.pro_format.proofs.Bytes.{length-with_bytes}
use Rattle.pro_format.proofs.FileCounts.{pro_counts}
use Rattle.pro_format.proofs.FreeSlots.{first_free_slot}
use Rattle.pro_format.proofs.Owners.{own_key}
use Rattle.pro_format.proofs.SlotLaws.{key_of_path, slot_inside}
use Rattle.edit_formats.specs.declared.counting.FileCount.TheVariants.{More}
use Rattle.edit_formats.specs.Counting.{counting, recounted}
use Rattle.edit_formats.specs.Erasing.{HasWholeUnits}
use Rattle.edit_formats.specs.ProNames.{is_pro_name}
use Rattle.edit_formats.specs.lemmas.Fronts.{one_front, two_fronts}
use Rattle.edit_formats.specs.declared.target.Slot.{Slot}
use Rattle.edit_formats.specs.declared.target.Target.TheVariants.{At}
use Rattle.edit_formats.specs.Saves.{IsElsewhere}
use Rattle.edit_formats.specs.ProSaves.{above_name, last_name, IsDirectoryAbove, IsProTarget}
use Rattle.edit_formats.specs.lemmas.ProSavable.{path_above, same_block}
use Rattle.file_edits.specs.Making.{Making, IsNewEntry}
use Rattle.file_edits.specs.NewDirectory.{directory_block, entering, new_entry_bytes}
use Rattle.file_edits.specs.WithDirectory.{with_directory}
use Rattle.file_edits.specs.Leaf.{IsEmptyDirectory, IsLeafEntry, HasOneDirectoryMore}
use Rattle.file_edits.proofs.LeafLaws.{directory_enters}
use Rattle.file_edits.proofs.NewBytes.{block_is_empty, leaf_entry, leaf_name}
use Rattle.file_edits.proofs.PathParts.{folded_path}

-- What stands once the entry is written: the directory has it, only the system's units changed, and the new directory is empty.
pub record IsEnteredIn (making : Making) (now : Directory) (slot : Slot) (at : ℕ) (entry : Listed) (place : ℕ) (base new : List (List ℕ)) : Type 0 where
  pub described : DescribesPro making.reserved new (with_directory now at entry place)
  pub rest : HasSameRest now base new
  pub block : unit_at new place ≡ directory_block making.path slot making.date
  pub empty : IsEmptyDirectory new place

-- The writes of the entry: from the first of them on it stands.
pub record IsEnteredBy (making : Making) (now : Directory) (slot : Slot) (place : ℕ) (base : List (List ℕ)) (writes : List Write) : Type 0 where
  pub at : ℕ
  pub within : at ≤ entries now
  pub entry : Listed
  pub is : IsNewEntry making slot place entry
  pub some : 0 < length writes
  pub entered : (n : ℕ) → 0 < n → n ≤ length writes → IsEnteredIn making now slot at entry place base (store_after (take n writes) base)

both : {X : Type 0} {b : _} → b ≡ true → b ≡ false → X
both e e' = absurd (cc)

module _ (making : Making) (base : List (List ℕ)) (directory now : Directory) (slot : Slot) (place : ℕ)
    (described : DescribesPro making.reserved making.store directory) (whole : HasWholeUnits (pro_meaning making.reserved) making.store)
    (target : IsProTarget making.store making.path (At slot)) (dated : length making.date.0 ≡ 4)
    (described_now : DescribesPro making.reserved base now) (elsewhere : IsElsewhere (pro_meaning making.reserved) directory making.store base)
    (outside : is_system now place ≡ false) (inside : place < now.places) (low : 2 ≤ place) (high : place < length making.store)
    (there : unit_at base place ≡ directory_block making.path slot making.date) where
  abbrev reserved : List Bool
  reserved = making.reserved

  abbrev store : List (List ℕ)
  store = making.store

  abbrev path : List ℕ
  path = making.path

  abbrev tree : Tree
  tree = described.tree

  abbrev key : ℕ
  key = slot.directory

  abbrev above : Option (List ℕ)
  above = option_map folded (above_name path)

  named : is_pro_name (last_name path) ≡ true
  named = target.is.0.0

  empty_in : (new : List (List ℕ)) → unit_at new place ≡ directory_block path slot making.date → length new ≡ length base → IsEmptyDirectory new place
  empty_in new has size = block_is_empty path slot making.date named dated new place has low (omega (arith, high, size, elsewhere.size))

  empty : IsEmptyDirectory base place
  empty = empty_in base there refl

  path_there : IsPathOfDirectory tree.entries key above
  path_there =
      subst (λ (t : Tree). IsPathOfDirectory t.entries key above) (one_directory store tree target.tree described.described target.described)
      (path_above target.tree.entries (above_name path) key (subst (IsDirectoryAbove target.tree.entries (above_name path)) (sym target.is.2) target.above))

  is_key : IsKeyOf tree.entries key
  is_key = key_of_path tree.entries key above path_there

  free : IsFreeSlotOf store key slot.place slot.number
  free =
      let first = target.is.1 in
      subst (λ k. IsFreeSlotOf store k slot.place slot.number) (sym target.is.2) (first_free_slot store target.key slot.place slot.number first.own first.run first.is)

  -- the blocks of the directory are blocks of the tree, and as they were
  own_inside : (block : ℕ) → Contains free.is.own block → Contains tree.blocks block
  own_inside block has =
      let second : IsSlotOf store key block 1 = record { own = free.is.own; run = free.is.run; has = has; below = omega arith; no_header = λ first same. omega (arith, first) } in
      slot_inside store tree.blocks tree.entries described.described.tree key block 1 is_key second

  place_has : Contains tree.blocks slot.place
  place_has = own_inside slot.place free.is.has

  key_has : Contains tree.blocks key
  key_has = own_inside key (own_key store key free.is.own free.is.run)

  below : (block : ℕ) → Contains tree.blocks block → block < length store
  below block has = (block_below store tree.blocks tree.entries described.described.tree block has).1

  same : (block : ℕ) → Contains tree.blocks block → unit_at base block ≡ unit_at store block
  same = same_block reserved store base directory now described described_now elsewhere

  same_tree : described_now.tree ≡ tree
  same_tree = one_directory base tree described_now.tree (describes_same store base tree elsewhere.size same described.described) described_now.described

  same_run : IsRun base key free.is.own
  same_run = run_changed (λ e. e) (record { same_kind = λ e. refl; same = λ e is. refl }) store base tree.blocks elsewhere.size
      (λ block has. let at = same block has in record {
        next = ap next_of at;
        kind = ap (λ u. slice_index u 0x04 / 16) at;
        entry_size = ap (λ u. slice_index u 0x23) at;
        entry_count = ap (λ u. slice_index u 0x24) at;
        entries = λ k. ap (entries_of k block) at ∙ sym (map-id (entries_of k block (unit_at store block)));
      }) key free.is.own own_inside free.is.run

  free_now : IsFreeSlotOf base key slot.place slot.number
  free_now = record {
    is = record { own = free.is.own; run = same_run; has = free.is.has; below = free.is.below; no_header = free.is.no_header };
    unused = ap (λ u. storage_of (slot_bytes u slot.number)) (same slot.place place_has) ∙ free.unused;
  }

  abbrev bytes : List ℕ
  bytes = new_entry_bytes path slot place making.date

  is_bytes : IsLeafEntry place bytes
  is_bytes = leaf_entry path slot making.date named dated place

  abbrev unit : List ℕ
  unit = with_bytes (slot_offset slot.number) bytes (unit_at store slot.place)

  abbrev one : List (List ℕ)
  one = slice_set base slot.place unit

  -- the entry stands
  more : HasOneDirectoryMore reserved described_now.tree.entries now base one above slot.place slot.number place bytes
  more =
      subst (λ u. HasOneDirectoryMore reserved described_now.tree.entries now base (slice_set base slot.place (with_bytes (slot_offset slot.number) bytes u)) above slot.place slot.number place bytes)
      (same slot.place place_has)
      (directory_enters reserved base now described_now key slot.place slot.number place above
      (subst (λ (t : Tree). IsPathOfDirectory t.entries key above) (sym same_tree) path_there)
      free_now (ap length (same slot.place place_has) ∙ whole slot.place (below slot.place place_has)) bytes is_bytes outside inside empty)

  is_entry : IsNewEntry making slot place more.entry
  is_entry = record {
    place_is = more.place_is;
    slot_is = more.slot_is;
    path_is = more.path_is ∙ ap (name_below above) (leaf_name path slot making.date named dated place) ∙ folded_path path;
    bytes_are = more.bytes_are;
    root_is = more.root_is;
  }

  abbrev after : Directory
  after = with_directory now more.at more.entry place

  -- and the directory counts one file more
  unit_size : length unit ≡ 512
  unit_size =
      let size = whole slot.place (below slot.place place_has) in
      length-with_bytes (unit_at store slot.place) (slot_offset slot.number) bytes (omega (arith, size, is_bytes.size, free.is.below)) ∙ size

  at_place : unit_at one slot.place ≡ unit
  at_place = get_or-set_same base slot.place unit [] (omega (arith, below slot.place place_has, elsewhere.size))

  at_key : key ≢ slot.place → unit_at one key ≡ unit_at store key
  at_key apart = get_or-set_other base slot.place key unit [] apart ∙ same key key_has

  key_whole : length (unit_at one key) ≡ 512
  key_whole = elim (cases_eq key slot.place) [
    | inl here ↦ ap (λ p. length (unit_at one p)) here ∙ ap length at_place ∙ unit_size
    | inr apart ↦ ap length (at_key apart) ∙ whole key (below key key_has)
  ]

  abbrev twice : List (List ℕ)
  twice = slice_set one key (counting More (unit_at one key))

  counted : HasSameDirectory reserved after one twice
  counted = pro_counts reserved one after more.described key (recounted More (word (unit_at one key) 0x25))
      (more.directories more.described.tree key more.described.described (subst (λ (t : Tree). IsKeyOf t.entries key) (sym same_tree) is_key)) key_whole

  -- the parent's key block is another than the new one
  key_system : is_system now key ≡ true
  key_system = block_in_system reserved base now described_now key (subst (λ (t : Tree). Contains t.blocks key) (sym same_tree) key_has)

  kept : (other : ℕ) → is_system now other ≡ false → unit_at twice other ≡ unit_at one other
  kept other free' = get_or-set_other one key other (counting More (unit_at one key)) [] (λ here. both (ap (is_system now) here ∙ key_system) free')

  first_stands : IsEnteredIn making now slot more.at more.entry place base one
  first_stands = record {
    described = more.described;
    rest = more.rest;
    block = more.rest.units place outside ∙ there;
    empty = more.empty;
  }

  both_stand : IsEnteredIn making now slot more.at more.entry place base twice
  both_stand = record {
    described = counted.described;
    rest = record {
      size = counted.rest.size ∙ more.rest.size;
      units = λ other free'. kept other free' ∙ more.rest.units other free';
    };
    block = kept place outside ∙ more.rest.units place outside ∙ there;
    empty = empty_in twice (kept place outside ∙ more.rest.units place outside ∙ there) (counted.rest.size ∙ more.rest.size);
  }

  -- in one write, where both stand in one block
  one_write : slot.place ≡ key → IsEnteredBy making now slot place base (record { place = slot.place; unit = counting More unit } ∷ [])
  one_write here =
      let write : Write = record { place = slot.place; unit = counting More unit } in
      let there : unit_at one key ≡ unit = ap (unit_at one) (sym here) ∙ at_place in
      let is : twice ≡ store_after (write ∷ []) base =
      ap (λ u. slice_set one key (counting More u)) there
      ∙ ap (λ p. slice_set one p (counting More unit)) (sym here)
      ∙ set-set base slot.place unit (counting More unit) in
      record {
        at = more.at;
        within = more.within;
        entry = more.entry;
        is = is_entry;
        some = omega arith;
        entered = one_front (IsEnteredIn making now slot more.at more.entry place base) base write (subst (IsEnteredIn making now slot more.at more.entry place base) is both_stand);
      }

  -- in two, where they stand in two
  two_writes : slot.place ≢ key → IsEnteredBy making now slot place base
      (record { place = slot.place; unit = unit } ∷ record { place = key; unit = counting More (unit_at store key) } ∷ [])
  two_writes apart =
      let first : Write = record { place = slot.place; unit = unit } in
      let second : Write = record { place = key; unit = counting More (unit_at store key) } in
      let is : twice ≡ store_after (first ∷ second ∷ []) base = ap (λ u. slice_set one key (counting More u)) (at_key (λ here. apart (sym here))) in
      record {
        at = more.at;
        within = more.within;
        entry = more.entry;
        is = is_entry;
        some = omega arith;
        entered = two_fronts (IsEnteredIn making now slot more.at more.entry place base) base first second first_stands
            (subst (IsEnteredIn making now slot more.at more.entry place base) is both_stand);
      }

  pub entered_by : IsEnteredBy making now slot place base (entering store path slot place making.date)
  entered_by = by_test (slot.place == key) refl
    where
      by_test : (b : Bool) → (slot.place == key) ≡ b → IsEnteredBy making now slot place base
          (if b then record { place = slot.place; unit = counting More unit } ∷ []
          else (record { place = slot.place; unit = unit } ∷ record { place = key; unit = counting More (unit_at store key) } ∷ []))
      by_test true here = one_write (eqb-true slot.place key here)
      by_test false apart = two_writes (eqb-false slot.place key apart)
