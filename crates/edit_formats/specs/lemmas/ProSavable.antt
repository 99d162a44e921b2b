-- In ProDOS a new file is entered by a write to its block and one to the key block of its directory, which may be the same.
use Rattle.std.specs.Prelude.{◌≡◌, ◌≢◌, ◌<◌, ◌≤◌, ◌*◌, ◌-◌, ◌/◌, ◌==◌, ◌||◌, ◌&&◌, ℕ, suc, zero, nat_lt, nat_le, Bool, true, false, if◌then◌else◌, List, [], ◌∷◌, ◌++◌, length, filter, take, drop, slice_index, slice_set, Option, Some, None, option_map, Contains}
use Rattle.std.specs.Char.{to_ascii_uppercase}
use Rattle.std.proofs.Common.{refl, sym, ◌∙◌, ap, subst, arith, inl, inr}
use Rattle.std.proofs.lemmas.Bool.{cases_eq, eqb-true, eqb-false}
use Rattle.std.proofs.lemmas.Bool.Decides.{nat_tests}
use Rattle.std.proofs.lemmas.List.{map-id, set-set, get_or-set_same, get_or-set_other, length-append, map-append}
use Rattle.std.proofs.lemmas.List.FromFn.{length-range_with_len}
use Rattle.std.proofs.lemmas.List.Sums.{length-filter, count_by-le-length}
use Rattle.std.proofs.lemmas.Slice.Eq.{bytes_eq-Decides}
use Rattle.std.specs.List.{flat_map, range_with_len}
use Rattle.std.specs.Str.{bytes_eq}
use Rattle.a2_device.specs.Device.{unit_at}
use Rattle.a2_device.specs.declared.part.PartKind.TheVariants.{Index, Master, Body}
use Rattle.pro_dir.specs.declared.slot.NewFile.{NewFile}
use Rattle.pro_dir.specs.declared.entry.Entry.{Entry}
use Rattle.pro_dir.specs.Entry.{entries_of, is_directory as is_subdirectory, slot_bytes, storage_of, word}
use Rattle.pro_dir.specs.Parents.{entry_in}
use Rattle.pro_dir.specs.Paths.{folded, name_below, path_of}
use Rattle.pro_dir.specs.Tree.{IsRun, next_of}
use Rattle.pro_dir.specs.Volume.{Directory as Tree, Describes}
use Rattle.pro_dir.specs.Walk.{IsKeyOf}
use Rattle.pro_dir.specs.Writes.{entry_bytes, slot_offset, with_bytes}
use Rattle.pro_dir.specs.lemmas.VolumeLaws.{one_directory}
use Rattle.pro_tree.specs.Content.{CanNameBlock}
use Rattle.pro_tree.specs.Reach.{pro_root}
use Rattle.vol_format.specs.Directory.{Directory, map_place}
use Rattle.pro_format.specs.Pro.{DescribesPro, CanNamePro, pro_meaning}
use Rattle.pro_format.specs.lemmas.ProChanged.{AreAmong, run_changed}
use Rattle.pro_format.specs.lemmas.ProDescribed.{block_below}
use Rattle.pro_format.specs.lemmas.ProLaws.{total_is}
use Rattle.pro_format.specs.lemmas.ProMarks.{block_in_system, describes_same, map_block, map_place-pro, places_is}
use Rattle.vol_laws.specs.Built.{Planned}
use Rattle.vol_laws.specs.Entered.{HasSameRest}
use Rattle.vol_laws.specs.Inserted.{inserted}
use Rattle.pro_format.specs.Slots.{HasOneEntryMore, HasSameDirectory, IsFreeSlotOf, IsPathOfDirectory, IsProperFile, IsSlotOf, SaysOfFile}
use Rattle.pro_format.proofs.Bytes.{length-with_bytes}
use Rattle.pro_format.proofs.BuiltPlans.{pro_built}
use Rattle.pro_format.proofs.FileCounts.{pro_counts}
use Rattle.pro_format.proofs.FreeSlots.{first_free_slot}
use Rattle.pro_format.proofs.NewEntries.{entry_says}
use Rattle.pro_format.proofs.Owners.{own_key}
use Rattle.pro_format.proofs.SlotLaws.{key_of_path, pro_enters, slot_inside}
use Rattle.vol_laws.specs.Writes.{Write, store_after}
use Rattle.edit_formats.specs.declared.new_part.NewPart.{NewPart}
use Rattle.edit_formats.specs.Order.{AreProParts, IsOfIndex, part_at}
use Rattle.edit_formats.specs.Parts.{any_stored, index_with_bodies, indexes, new_part, pro_parts_of, storage_type, tree_parts}
use Rattle.edit_formats.specs.lemmas.ProOrder.{pro_parts_are, pro_units}
use Rattle.edit_formats.specs.Placed.{HavePlaces}
use Rattle.edit_formats.specs.TableUnit.{HasTableUnits}
use Rattle.edit_formats.specs.lemmas.Parts.{master_first, plan_rising}
use Rattle.edit_formats.specs.lemmas.ProPlanned.{pro_file_planned, pro_root_first}
use Rattle.edit_formats.specs.declared.counting.FileCount.TheVariants.{More}
use Rattle.edit_formats.specs.Counting.{counting, recounted}
use Rattle.edit_formats.specs.Erasing.{HasWholeUnits}
use Rattle.edit_formats.specs.ProNames.{is_pro_name}
use Rattle.edit_formats.specs.lemmas.Numbers.{other_number}
use Rattle.edit_formats.specs.lemmas.ProNaming.{front_of_name, length-pro_name, short_name}
use Rattle.edit_formats.specs.lemmas.Fronts.{one_front, two_fronts}
use Rattle.edit_formats.specs.declared.target.Attributes.{Attributes}
use Rattle.edit_formats.specs.declared.target.Extent.{Extent}
use Rattle.edit_formats.specs.declared.target.Slot.{Slot}
use Rattle.edit_formats.specs.declared.target.Target.TheVariants.{At}
use Rattle.edit_formats.specs.Saves.{HasEntering, HasTables, IsElsewhere, IsEntering, IsSavable}
use Rattle.edit_formats.specs.ProSaves.{above_name, has_slash, last_name, name_start, new_file, pro_entering, pro_saves, IsDirectoryAbove, IsProEntry, IsProTarget}
use Rattle.edit_formats.specs.lemmas.DosSavable.{few_bodies}

any_behind : (path : List ℕ) (byte : ℕ) (before : Bool) → (before || has_slash (path ++ byte ∷ [])) ≡ ((before || has_slash path) || (byte == 0x2f))
any_behind [] byte before = by_test (byte == 0x2f) before
  where
    by_test : (slash some : Bool) → (some || (slash || false)) ≡ ((some || false) || slash)
    by_test true true = refl
    by_test true false = refl
    by_test false true = refl
    by_test false false = refl
any_behind (first ∷ path) byte before = by_test before (first == 0x2f) (any_behind path byte (first == 0x2f))
  where
    by_test : (some here : Bool) → (here || has_slash (path ++ byte ∷ [])) ≡ ((here || has_slash path) || (byte == 0x2f))
        → (some || (here || has_slash (path ++ byte ∷ []))) ≡ ((some || (here || has_slash path)) || (byte == 0x2f))
    by_test true here same = refl
    by_test false here same = same

either_true : (b : Bool) → (b || true) ≡ true
either_true true = refl
either_true false = refl

-- where the last name of a path begins, once a byte is read more
pub next_start : (path : List ℕ) (byte : ℕ) → name_start (path ++ byte ∷ []) ≡ (if byte == 0x2f then suc (length path) else name_start path)
next_start [] byte = by_test (byte == 0x2f)
  where
    by_test : (slash : Bool) → ◌≡◌ {A = ℕ} (if slash || false then 1 else 0) (if slash then 1 else 0)
    by_test true = refl
    by_test false = refl
next_start (first ∷ path) byte = by_test (byte == 0x2f) (has_slash (first ∷ path)) (next_start path byte) (any_behind path byte (first == 0x2f))
  where
    by_test : (slash some : Bool) → name_start (path ++ byte ∷ []) ≡ (if slash then suc (length path) else name_start path)
        → has_slash (first ∷ (path ++ byte ∷ [])) ≡ (some || slash)
        → (if has_slash (first ∷ (path ++ byte ∷ [])) then suc (name_start (path ++ byte ∷ [])) else 0)
        ≡ (if slash then suc (suc (length path)) else (if some then suc (name_start path) else 0))
    by_test true some before is = ap (λ b. if b then suc (name_start (path ++ byte ∷ [])) else 0) (is ∙ either_true some) ∙ ap suc before
    by_test false true before is = ap (λ b. if b then suc (name_start (path ++ byte ∷ [])) else 0) is ∙ ap suc before
    by_test false false before is = ap (λ b. if b then suc (name_start (path ++ byte ∷ [])) else 0) is

pub start_within : (path : List ℕ) → name_start path ≤ length path
start_within [] = omega arith
start_within (byte ∷ path) = by_test (has_slash (byte ∷ path)) (start_within path)
  where
    by_test : (slash : Bool) → name_start path ≤ length path → (if slash then suc (name_start path) else 0) ≤ suc (length path)
    by_test true within = omega (arith, within)
    by_test false within = omega arith

-- the slash before the last name of a path
not_after : (path : List ℕ) → name_start path ≡ 0 → has_slash path ≡ false
not_after [] none = refl
not_after (byte ∷ path) none = by_test (has_slash (byte ∷ path)) none
  where
    by_test : (slash : Bool) → (if slash then suc (name_start path) else 0) ≡ 0 → slash ≡ false
    by_test true some = absurd (omega (arith, some))
    by_test false none' = refl

first_slash : (byte : ℕ) (rest : Bool) → (byte == 0x2f || rest) ≡ true → rest ≡ false → byte ≡ 0x2f
first_slash byte rest either none = by_test (byte == 0x2f) refl
  where
    by_test : (b : Bool) → (byte == 0x2f) ≡ b → byte ≡ 0x2f
    by_test true is = eqb-true byte 0x2f is
    by_test false is = absurd (cc (is, either, none))

abbrev IsParted : List ℕ → Type 0
IsParted path = (before : ℕ) → name_start path ≡ suc before → take before path ++ 0x2f ∷ drop (suc before) path ≡ path

parted : (path : List ℕ) (before : ℕ) → name_start path ≡ suc before → take before path ++ 0x2f ∷ drop (suc before) path ≡ path
parted [] before start = absurd (omega (arith, start))
parted (byte ∷ path) before start = by_test (λ n. parted path n) (has_slash (byte ∷ path)) refl start
  where
    behind : IsParted path → (n : ℕ) → has_slash (byte ∷ path) ≡ true → name_start path ≡ n → take n (byte ∷ path) ++ 0x2f ∷ drop (suc n) (byte ∷ path) ≡ byte ∷ path
    behind later zero slash none = ap (λ b. b ∷ path) (sym (first_slash byte (has_slash path) slash (not_after path none)))
    behind later (suc n) slash some = ap (λ p. byte ∷ p) (later n some)

    by_test : IsParted path → (slash : Bool) → has_slash (byte ∷ path) ≡ slash → (if slash then suc (name_start path) else 0) ≡ suc before
        → take before (byte ∷ path) ++ 0x2f ∷ drop (suc before) (byte ∷ path) ≡ byte ∷ path
    by_test later true is same = behind later before is (omega (arith, same))
    by_test later false is same = absurd (omega (arith, same))

below_above : (path : List ℕ) → name_below (above_name path) (last_name path) ≡ path
below_above path = by_start (name_start path) refl
  where
    by_start : (start : ℕ) → name_start path ≡ start → name_below (if start == 0 then None else Some (take (start - 1) path)) (drop start path) ≡ path
    by_start zero none = refl
    by_start (suc before) some =
        let less : suc before - 1 ≡ before = omega arith in
        ap (λ b. name_below (if b then None else Some (take (suc before - 1) path)) (drop (suc before) path)) (other_number (suc before) 0 (λ none. absurd (omega (arith, none))))
        ∙ ap (λ n. take n path ++ 0x2f ∷ drop (suc before) path) less
        ∙ parted path before some

folded_below : (above : Option (List ℕ)) (name : List ℕ) → name_below (option_map folded above) (folded name) ≡ folded (name_below above name)
folded_below None name = refl
folded_below (Some path) name = sym (map-append to_ascii_uppercase path (0x2f ∷ name))

both_true : (a b : Bool) → (a && b) ≡ true → (a ≡ true) × (b ≡ true)
both_true true true is = (refl, refl)
both_true true false is = absurd (cc)
both_true false b is = absurd (cc)

-- the directory to which a path leads has the path before the name
pub path_above : (all : List Entry) (above : Option (List ℕ)) (key : ℕ) → IsDirectoryAbove all above key → IsPathOfDirectory all key (option_map folded above)
path_above all None key volume = volume
path_above all (Some path) key of =
    let named = both_true (is_subdirectory (entry_in all of.number)) (bytes_eq (folded path) (path_of all of.number)) of.named in
    record {
      number = of.number;
      inside = of.inside;
      subdirectory = named.0;
      key_is = of.key_is;
      path_is = (bytes_eq-Decides (folded path) (path_of all of.number)).0 named.1;
    }

storage_of_file : (units : ℕ) → (0 < storage_type units) × (storage_type units < 13)
storage_of_file units = by_tests (nat_le units 1) (nat_le units 256)
  where
    by_tests : (one few : Bool) → (0 < (if one then 1 else (if few then 2 else 3))) × ((if one then 1 else (if few then 2 else 3)) < 13)
    by_tests true few = (omega arith, omega arith)
    by_tests false true = (omega arith, omega arith)
    by_tests false false = (omega arith, omega arith)

not_long : (eof units : ℕ) → (nat_lt 32768 units || nat_lt 16777215 eof) ≡ false → (units ≤ 32768) × (eof < 16777216)
not_long eof units short = by_tests (nat_lt 32768 units) (nat_lt 16777215 eof) refl refl short
  where
    by_tests : (a b : Bool) → nat_lt 32768 units ≡ a → nat_lt 16777215 eof ≡ b → (a || b) ≡ false → (units ≤ 32768) × (eof < 16777216)
    by_tests true b is is' neither = absurd (cc)
    by_tests false true is is' neither = absurd (cc)
    by_tests false false is is' neither = (grind (arith, nat_tests, is), grind (arith, nat_tests, is'))

module _ (reserved : List Bool) (store base : List (List ℕ)) (directory now : Directory) (described : DescribesPro reserved store directory)
    (described_now : DescribesPro reserved base now) (elsewhere : IsElsewhere (pro_meaning reserved) directory store base) where
  -- no block of a directory has marks of places, so each is as it was
  no_map : (block place : ℕ) → Contains described.tree.blocks block → place < directory.places → map_place directory place ≢ block
  no_map block place has inside same =
      let total = places_is reserved store directory described in
      let at = map_place-pro reserved store directory described place inside in
      (map_block reserved store directory described (map_place directory place) (omega (arith, at)) (omega (arith, at, inside, total))).1
      (subst (Contains described.tree.blocks) (sym same) has)

  pub same_block : (block : ℕ) → Contains described.tree.blocks block → unit_at base block ≡ unit_at store block
  same_block block has = elim (elsewhere.system block (block_in_system reserved store directory described block has)) [
    | inl same ↦ same
    | inr is ↦ absurd (no_map block is.marked has is.inside is.here)
  ]

  describes_base : Describes base described.tree
  describes_base = describes_same store base described.tree elsewhere.size same_block described.described

  pub same_tree : described_now.tree ≡ described.tree
  same_tree = one_directory base described.tree described_now.tree describes_base described_now.described

  pub same_run : (key : ℕ) (own : List ℕ) → AreAmong own described.tree.blocks → IsRun store key own → IsRun base key own
  same_run = run_changed (λ e. e) (record { same_kind = λ e. refl; same = λ e is. refl }) store base described.tree.blocks elsewhere.size
      (λ block has. let at = same_block block has in record {
        next = ap next_of at;
        kind = ap (λ u. slice_index u 0x04 / 16) at;
        entry_size = ap (λ u. slice_index u 0x23) at;
        entry_count = ap (λ u. slice_index u 0x24) at;
        entries = λ key. ap (entries_of key block) at ∙ sym (map-id (entries_of key block (unit_at store block)));
      })

module _ (reserved : List Bool) (store base : List (List ℕ)) (directory now : Directory) (path : List ℕ) (slot : Slot) (attributes : Attributes) (extent : Extent)
    (described : DescribesPro reserved store directory) (whole : HasWholeUnits (pro_meaning reserved) store) (target : IsProTarget store path (At slot))
    (dated : length attributes.date.0 ≡ 4)
    (described_now : DescribesPro reserved base now) (elsewhere : IsElsewhere (pro_meaning reserved) directory store base) where
  abbrev tree : Tree
  tree = described.tree

  abbrev key : ℕ
  key = slot.directory

  abbrev above : Option (List ℕ)
  above = option_map folded (above_name path)

  name : is_pro_name (last_name path) ≡ true
  name = target.is.0.0

  path_there : IsPathOfDirectory tree.entries key above
  path_there =
      subst (λ (t : Tree). IsPathOfDirectory t.entries key above) (one_directory store tree target.tree described.described target.described)
      (path_above target.tree.entries (above_name path) key (subst (IsDirectoryAbove target.tree.entries (above_name path)) (sym target.is.2) target.above))

  is_key : IsKeyOf tree.entries key
  is_key = key_of_path tree.entries key above path_there

  free : IsFreeSlotOf store key slot.place slot.number
  free =
      let first = target.is.1 in
      subst (λ k. IsFreeSlotOf store k slot.place slot.number) (sym target.is.2) (first_free_slot store target.key slot.place slot.number first.own first.run first.is)

  -- the blocks of the directory are blocks of the tree
  own_inside : (block : ℕ) → Contains free.is.own block → Contains tree.blocks block
  own_inside block has =
      let second : IsSlotOf store key block 1 = record { own = free.is.own; run = free.is.run; has = has; below = omega arith; no_header = λ first same. omega (arith, first) } in
      slot_inside store tree.blocks tree.entries described.described.tree key block 1 is_key second

  place_has : Contains tree.blocks slot.place
  place_has = own_inside slot.place free.is.has

  key_has : Contains tree.blocks key
  key_has = own_inside key (own_key store key free.is.own free.is.run)

  below : (block : ℕ) → Contains tree.blocks block → block < length store
  below block has = (block_below store tree.blocks tree.entries described.described.tree block has).1

  same : (block : ℕ) → Contains tree.blocks block → unit_at base block ≡ unit_at store block
  same = same_block reserved store base directory now described described_now elsewhere

  free_now : IsFreeSlotOf base key slot.place slot.number
  free_now = record {
    is = record {
      own = free.is.own;
      run = same_run reserved store base directory now described described_now elsewhere key free.is.own own_inside free.is.run;
      has = free.is.has;
      below = free.is.below;
      no_header = free.is.no_header;
    };
    unused = ap (λ u. storage_of (slot_bytes u slot.number)) (same slot.place place_has) ∙ free.unused;
  }

  abbrev file : NewFile
  file = new_file path slot attributes extent

  proper : IsProperFile file
  proper = record { storage = storage_of_file extent.units; short = short_name (last_name path) name; name = length-pro_name (last_name path) name; date = dated }

  says : SaysOfFile file (entry_bytes file)
  says = entry_says file proper

  abbrev unit : List ℕ
  unit = with_bytes (slot_offset slot.number) (entry_bytes file) (unit_at store slot.place)

  abbrev one : List (List ℕ)
  one = slice_set base slot.place unit

  -- the entry stands
  more : HasOneEntryMore reserved described_now.tree.entries now base one above slot.place slot.number (entry_bytes file)
  more =
      subst (λ u. HasOneEntryMore reserved described_now.tree.entries now base (slice_set base slot.place (with_bytes (slot_offset slot.number) (entry_bytes file) u)) above slot.place slot.number (entry_bytes file))
      (same slot.place place_has)
      (pro_enters reserved base now described_now key slot.place slot.number above
      (subst (λ (t : Tree). IsPathOfDirectory t.entries key above) (sym (same_tree reserved store base directory now described described_now elsewhere)) path_there)
      free_now (ap length (same slot.place place_has) ∙ whole slot.place (below slot.place place_has)) (entry_bytes file) says.is)

  is_entry : IsProEntry store path slot attributes extent more.at more.entry
  is_entry = record {
    place_is = more.place_is;
    slot_is = more.slot_is;
    path_is = more.path_is ∙ ap (name_below above) (says.name_is ∙ front_of_name (last_name path)) ∙ folded_below (above_name path) (last_name path) ∙ ap folded (below_above path);
    bytes_are = more.bytes_are;
    root_is = more.root_is
        ∙ ap (λ n. pro_root n more.at (storage_of (entry_bytes file)) (word (entry_bytes file) 0x11)) (places_is reserved base now described_now ∙ total_is reserved base now described_now ∙ elsewhere.size)
        ∙ ap (λ s. pro_root (length store) more.at s (word (entry_bytes file) 0x11)) says.storage_is
        ∙ ap (pro_root (length store) more.at (storage_type extent.units)) says.key_is;
  }

  -- and the directory counts one file more
  unit_size : length unit ≡ 512
  unit_size =
      let size = whole slot.place (below slot.place place_has) in
      length-with_bytes (unit_at store slot.place) (slot_offset slot.number) (entry_bytes file) (omega (arith, size, says.is.size, free.is.below)) ∙ size

  at_place : unit_at one slot.place ≡ unit
  at_place = get_or-set_same base slot.place unit [] (omega (arith, below slot.place place_has, elsewhere.size))

  at_key : key ≢ slot.place → unit_at one key ≡ unit_at store key
  at_key apart = get_or-set_other base slot.place key unit [] apart ∙ same key key_has

  key_whole : length (unit_at one key) ≡ 512
  key_whole = elim (cases_eq key slot.place) [
    | inl here ↦ ap (λ p. length (unit_at one p)) here ∙ ap length at_place ∙ unit_size
    | inr apart ↦ ap length (at_key apart) ∙ whole key (below key key_has)
  ]

  abbrev both : List (List ℕ)
  both = slice_set one key (counting More (unit_at one key))

  abbrev after : Directory
  after = inserted now more.at more.entry

  counted : HasSameDirectory reserved after one both
  counted = pro_counts reserved one after more.described key (recounted More (word (unit_at one key) 0x25))
      (more.directories more.described.tree key more.described.described
      (subst (λ (t : Tree). IsKeyOf t.entries key) (sym (same_tree reserved store base directory now described described_now elsewhere)) is_key)) key_whole

  both_rest : HasSameRest now base both
  both_rest = record {
    size = counted.rest.size ∙ more.rest.size;
    units = λ place outside. counted.rest.units place outside ∙ more.rest.units place outside;
  }

  -- in one write, where both stand in one block
  one_write : slot.place ≡ key → IsEntering (pro_meaning reserved) now more.at more.entry base (record { place = slot.place; unit = counting More unit } ∷ [])
  one_write here =
      let write : Write = record { place = slot.place; unit = counting More unit } in
      let there : unit_at one key ≡ unit = ap (unit_at one) (sym here) ∙ at_place in
      let is : both ≡ store_after (write ∷ []) base =
      ap (λ u. slice_set one key (counting More u)) there
      ∙ ap (λ p. slice_set one p (counting More unit)) (sym here)
      ∙ set-set base slot.place unit (counting More unit) in
      record {
        within = more.within;
        enters = omega arith;
        described = one_front (λ (s : List (List ℕ)). DescribesPro reserved s after) base write (subst (λ (s : List (List ℕ)). DescribesPro reserved s after) is counted.described);
        rest = one_front (HasSameRest now base) base write (subst (HasSameRest now base) is both_rest);
      }

  -- in two, where they stand in two
  two_writes : slot.place ≢ key → IsEntering (pro_meaning reserved) now more.at more.entry base
      (record { place = slot.place; unit = unit } ∷ record { place = key; unit = counting More (unit_at store key) } ∷ [])
  two_writes apart =
      let first : Write = record { place = slot.place; unit = unit } in
      let second : Write = record { place = key; unit = counting More (unit_at store key) } in
      let is : both ≡ store_after (first ∷ second ∷ []) base = ap (λ u. slice_set one key (counting More u)) (at_key (λ here. apart (sym here))) in
      record {
        within = more.within;
        enters = omega arith;
        described = two_fronts (λ (s : List (List ℕ)). DescribesPro reserved s after) base first second more.described
            (subst (λ (s : List (List ℕ)). DescribesPro reserved s after) is counted.described);
        rest = two_fronts (HasSameRest now base) base first second more.rest (subst (HasSameRest now base) is both_rest);
      }

  entering : IsEntering (pro_meaning reserved) now more.at more.entry base (pro_entering store path slot attributes extent)
  entering = by_test (slot.place == key) refl
    where
      by_test : (b : Bool) → (slot.place == key) ≡ b → IsEntering (pro_meaning reserved) now more.at more.entry base
          (if b then record { place = slot.place; unit = counting More unit } ∷ []
          else (record { place = slot.place; unit = unit } ∷ record { place = key; unit = counting More (unit_at store key) } ∷ []))
      by_test true here = one_write (eqb-true slot.place key here)
      by_test false apart = two_writes (eqb-false slot.place key apart)

  pub has_entering : HasEntering (pro_meaning reserved) pro_saves now store base path slot attributes extent
  has_entering = record { at = more.at; entry = more.entry; is = is_entry; entering = entering }

-- how many parts a file has
few_in_indexes : (stored : List Bool) (numbers : List ℕ) → length (flat_map (index_with_bodies stored) numbers) ≤ 257 * length numbers
few_in_indexes stored [] = omega arith
few_in_indexes stored (number ∷ numbers) =
    omega (
      arith,
      length-append (index_with_bodies stored number) (flat_map (index_with_bodies stored) numbers),
      few_bodies stored (256 * number) 256,
      few_in_indexes stored numbers,
    )

few_indexes : (stored : List Bool) → length (indexes stored 128) ≤ 32896
unfolding indexes
few_indexes stored =
    omega (
      arith,
      few_in_indexes stored (filter (λ number. any_stored stored (256 * number) 256) (range_with_len 0 128)),
      length-filter (λ number. any_stored stored (256 * number) 256) (range_with_len 0 128),
      count_by-le-length (λ number. any_stored stored (256 * number) 256) (range_with_len 0 128),
      length-range_with_len 0 128,
    )

few_parts : (stored : List Bool) → length (pro_parts_of stored) < 65536
unfolding pro_parts_of
few_parts stored = by_tests (storage_type (length stored) == 1) (storage_type (length stored) == 2)
  where
    by_tests : (one two : Bool) → length (if one then new_part Body 0 ∷ [] else (if two then index_with_bodies stored 0 else tree_parts stored)) < 65536
    by_tests true two = omega arith
    by_tests false true = omega (arith, few_bodies stored (256 * 0) 256)
    by_tests false false = omega (arith, few_indexes stored)

pub are_pro_parts : (stored : List Bool) → (nat_lt 32768 (length stored) || nat_lt 16777215 0) ≡ false → AreProParts (storage_type (length stored)) (pro_parts_of stored)
are_pro_parts stored short = pro_parts_are stored (not_long 0 (length stored) short).0

-- a table that is no index is the master index, which comes first
pub master_is_first : (stored : List Bool) (k : ℕ) → (nat_lt 32768 (length stored) || nat_lt 16777215 0) ≡ false → k < length (pro_parts_of stored)
    → (part_at (pro_parts_of stored) k).kind ≢ Body → (part_at (pro_parts_of stored) k).kind ≢ Index → (part_at (pro_parts_of stored) 0).kind ≡ Master
master_is_first stored k short inside no_body no_index = elim ((are_pro_parts stored short).kinds k inside) [
  | inl body ↦ absurd (no_body body)
  | inr others ↦ elim others [
    | inl index ↦ absurd (no_index index)
    | inr master ↦ subst (λ n. (part_at (pro_parts_of stored) n).kind ≡ Master)
        (master_first (storage_type (length stored)) (pro_parts_of stored) (are_pro_parts stored short) k inside master).0 master
  ]
]

no_body : Index ≡ Body → ⊥
no_body same = absurd (cc)

no_body_master : Master ≡ Body → ⊥
no_body_master same = absurd (cc)

has_tables : (parts : List NewPart) (places : List ℕ) (planned : List Planned) → HasTables pro_saves parts places planned → HasTableUnits parts places planned
has_tables parts places planned tables = record {
  indexes = λ k inside is. (tables k inside (λ body. no_body (sym is ∙ body))).index is;
  master = λ k inside is. (tables k inside (λ body. no_body_master (sym is ∙ body))).master is;
}

block_places : (count : ℕ) (parts : List NewPart) (places : List ℕ) → HavePlaces (CanNamePro count) parts places → HavePlaces (CanNameBlock count) parts places
block_places count parts places have = record { size = have.size; named = λ i d within. (have.named i d within).0; once = have.once }

pub pro_is_savable : (reserved : List Bool) → IsSavable (pro_meaning reserved) pro_saves
pro_is_savable reserved = record {
  units = λ stored short. pro_units stored (not_long 0 (length stored) short).0;
  some = λ stored short. (are_pro_parts stored short).ordered.some;
  few = λ stored short. few_parts stored;
  countable = λ eof units short. omega (arith, (not_long eof units short).0);
  shorter = λ eof units short. grind (arith, nat_tests, (not_long eof units short).0);
  rising = λ at stored places planned short has. plan_rising at (pro_parts_of stored) places planned has IsOfIndex (are_pro_parts stored short).ordered;
  built = λ count at store path slot attributes extent entry stored places planned short have has tables size is units first.
      let parts = pro_parts_of stored in
      let are = are_pro_parts stored short in
      let own = block_places count parts places have in
      let whole = has_tables parts places planned tables in
      let storage = storage_type (length stored) in
      pro_built reserved count at planned (pro_file_planned count at storage parts places planned are own has whole) entry.root
      (is.root_is ∙ ap (λ n. pro_root n at (storage_type extent.units) extent.first) size ∙ ap (λ n. pro_root count at (storage_type n) extent.first) units
      ∙ ap (pro_root count at storage) first ∙ pro_root_first count at storage parts places planned are own has whole);
  enters = λ store base directory now path slot attributes extent described whole target short named dated described_now elsewhere.
      has_entering reserved store base directory now path slot attributes extent described whole target dated described_now elsewhere;
}
