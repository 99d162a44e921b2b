-- A write outside the system, and a place's mark written: what the directory is then.
use Rattle.std.specs.Prelude.{◌≡◌, ◌≢◌, ◌<◌, ◌≤◌, ℕ, ◌+◌, ◌*◌, ◌/◌, ◌%◌, true, false, Bool, List, [], length, slice_index, slice_set, Contains}
use Rattle.std.proofs.Common.{refl, sym, ◌∙◌, ap, arith, subst, get_or, inl, inr}
use Rattle.std.proofs.lemmas.Bool.{cases_eq}
use Rattle.std.proofs.lemmas.List.{ext_get_or, length-set, get_or-set_same, get_or-set_other, map-id}
use Rattle.std.proofs.lemmas.List.FromFn.{length-map-range_with_len, get_or-map-range_with_len}
use Rattle.a2_device.specs.Device.{unit_at}
use Rattle.pro_bitmap.specs.Bitmap.{is_free_in, units_in}
use Rattle.pro_dir.specs.declared.entry.Entry.{Entry}
use Rattle.pro_dir.specs.Entry.{entries_of, slot_bytes}
use Rattle.pro_dir.specs.Volume.{Directory as Tree, Describes, map_blocks, map_first, total_blocks}
use Rattle.vol_format.specs.Directory.{Directory, is_system, map_place, remapped}
use Rattle.pro_format.specs.Pro.{DescribesPro, map_of, pro_directory, pro_free, pro_with_free}
use Rattle.pro_format.specs.lemmas.ProBits.{free-here, free-other}
use Rattle.pro_format.specs.lemmas.ProChanged.{describes_changed}
use Rattle.pro_format.specs.lemmas.ProDescribed.{block_below, volume_inside}
use Rattle.pro_format.specs.lemmas.ProDirectory.{map_place_is}
use Rattle.pro_format.specs.lemmas.ProLaws.{total_is}
use Rattle.pro_format.specs.lemmas.ProSystem.{block_inside, map_inside}

pub length-free : (units : List (List ℕ)) (places : ℕ) → length (pro_free units places) ≡ places
unfolding pro_free
length-free units places = length-map-range_with_len (λ place. is_free_in (unit_at units (place / 4096)) (place % 4096)) 0 places

pub free-at : (units : List (List ℕ)) (places place : ℕ) → place < places → get_or (pro_free units places) place false ≡ is_free_in (unit_at units (place / 4096)) (place % 4096)
unfolding pro_free
free-at units places place within =
    get_or-map-range_with_len (λ place. is_free_in (unit_at units (place / 4096)) (place % 4096)) 0 places place place false within (omega arith)

-- the units of the map
pub unit-in : (store : List (List ℕ)) (first count k : ℕ) → k < count → unit_at (units_in store first count) k ≡ unit_at store (first + k)
unit-in store first count k within = get_or-map-range_with_len (unit_at store) first count k (first + k) [] within refl

pub units-same : (store new : List (List ℕ)) (first count : ℕ) → ((place : ℕ) → first ≤ place → place < first + count → unit_at new place ≡ unit_at store place)
    → units_in new first count ≡ units_in store first count
units-same store new first count same = ext_get_or [] (units_in new first count) (units_in store first count)
    (length-map-range_with_len (unit_at new) first count ∙ sym (length-map-range_with_len (unit_at store) first count))
    (λ k within.
    let inside : k < count = omega (arith, within, length-map-range_with_len (unit_at new) first count) in
    unit-in new first count k inside ∙ same (first + k) (omega arith) (omega (arith, inside)) ∙ sym (unit-in store first count k inside))

-- a store with the same directory blocks describes the same directories
pub describes_same : (store new : List (List ℕ)) (tree : Tree) → length new ≡ length store → ((block : ℕ) → Contains tree.blocks block → unit_at new block ≡ unit_at store block)
    → Describes store tree → Describes new tree
describes_same store new tree size same described =
    subst (λ (entries : List Entry). Describes new (record tree { entries = entries })) (map-id tree.entries)
    (describes_changed (λ e. e) (record { same_kind = λ e. refl; same = λ e is. refl }) store new tree size
    (λ block has. let at = same block has in record {
      next = ap (λ u. slice_index u 2 + 256 * slice_index u 3) at;
      kind = ap (λ u. slice_index u 0x04 / 16) at;
      entry_size = ap (λ u. slice_index u 0x23) at;
      entry_count = ap (λ u. slice_index u 0x24) at;
      entries = λ key. ap (entries_of key block) at ∙ sym (map-id (entries_of key block (unit_at store block)));
    })
    (ap (λ u. slot_bytes u 0) (same 2 (volume_inside store tree.blocks tree.entries described.tree)))
    described)

module _ (reserved : List Bool) (store : List (List ℕ)) (directory : Directory) (described : DescribesPro reserved store directory) where
  abbrev tree : Tree
  tree = described.tree

  abbrev first : ℕ
  first = map_first described.tree.header

  abbrev total : ℕ
  total = total_blocks described.tree.header

  pub places_is : directory.places ≡ total
  places_is = ap (λ (d : Directory). d.places) described.says

  pub block_in_system : (place : ℕ) → Contains tree.blocks place → is_system directory place ≡ true
  block_in_system place has = ap (λ (d : Directory). is_system d place) described.says
      ∙ block_inside reserved tree place (omega (arith, total_is reserved store directory described, (block_below store tree.blocks tree.entries described.described.tree place has).1)) has

  -- a block of the map is one of the volume, and none of the directories'
  pub map_block : (place : ℕ) → first ≤ place → place < first + map_blocks total → (place < total) × ¬ Contains tree.blocks place
  map_block place from below =
      let total_is' = total_is reserved store directory described in
      let is = described.described.map place from (omega (arith, below, ap map_blocks total_is')) in
      (omega (arith, is.0.1, total_is'), is.1)

  pub map_in_system : (place : ℕ) → first ≤ place → place < first + map_blocks total → is_system directory place ≡ true
  map_in_system place from below =
      ap (λ (d : Directory). is_system d place) described.says ∙ map_inside reserved tree place (map_block place from below).0 from below

  pub map_place-pro : (place : ℕ) → place < directory.places → map_place directory place ≡ first + place / 4096
  map_place-pro place within =
      ap (λ (d : Directory). map_place d place) described.says ∙ map_place_is first total place (omega (arith, within, places_is))

  -- a write outside the system
  pub outside_pro : (place : ℕ) (unit : List ℕ) → is_system directory place ≡ false → DescribesPro reserved (slice_set store place unit) directory
  outside_pro place unit outside =
      let size = length-set store place unit in
      record {
        size = (omega (arith, size, described.size.0), omega (arith, size, described.size.1));
        tree = tree;
        described = describes_same store (slice_set store place unit) tree size (λ block has. kept block (block_in_system block has)) described.described;
        says = described.says ∙ ap (pro_directory reserved tree)
            (sym (units-same store (slice_set store place unit) first (map_blocks total) (λ block from below. kept block (map_in_system block from below))));
      }
    where
      kept : (block : ℕ) → is_system directory block ≡ true → unit_at (slice_set store place unit) block ≡ unit_at store block
      kept block inside = get_or-set_other store place block unit []
          (λ e. let out : is_system directory block ≡ false = subst (λ p. is_system directory p ≡ false) (sym e) outside in absurd (cc (out, inside)))

  -- a place marked free or used
  module _ (place : ℕ) (free : Bool) (within : place < directory.places) (whole : length (unit_at store (map_place directory place)) ≡ 512) where
    abbrev at : ℕ
    at = first + place / 4096

    here : map_place directory place ≡ at
    here = map_place-pro place within

    below : place < total
    below = omega (arith, within, places_is)

    abbrev unit_after : List ℕ
    unit_after = pro_with_free (unit_at store at) place free

    abbrev after : List (List ℕ)
    after = slice_set store at unit_after

    is_map_block : (at < total) × ¬ Contains tree.blocks at
    is_map_block = map_block at (omega arith) (omega (arith, below))

    in_store : at < length store
    in_store = omega (arith, is_map_block.0, total_is reserved store directory described)

    free_there : (other : ℕ) → other < total → is_free_in (unit_at (map_of after tree) (other / 4096)) (other % 4096) ≡ get_or (slice_set (pro_free (map_of store tree) total) place free) other false
    free_there other inside =
        ap (λ u. is_free_in u (other % 4096)) (unit-in after first (map_blocks total) (other / 4096) (omega (arith, inside)))
        ∙ elim (cases_eq other place) [
          | inl same ↦
              ap (λ p. is_free_in (unit_at after (first + p / 4096)) (p % 4096)) same
              ∙ ap (λ u. is_free_in u (place % 4096)) (get_or-set_same store at unit_after [] in_store)
              ∙ free-here (unit_at store at) place free whole'
              ∙ sym (ap (λ p. get_or (slice_set (pro_free (map_of store tree) total) place free) p false) same
              ∙ get_or-set_same (pro_free (map_of store tree) total) place free false (omega (arith, below, length-free (map_of store tree) total)))
          | inr apart ↦
              elsewhere apart
              ∙ ap (λ u. is_free_in u (other % 4096)) (sym (unit-in store first (map_blocks total) (other / 4096) (omega (arith, inside))))
              ∙ sym (get_or-set_other (pro_free (map_of store tree) total) place other free false apart ∙ free-at (map_of store tree) total other inside)
        ]
      where
        whole' : length (unit_at store at) ≡ 512
        whole' = subst (λ p. length (unit_at store p) ≡ 512) here whole

        elsewhere : other ≢ place → is_free_in (unit_at after (first + other / 4096)) (other % 4096) ≡ is_free_in (unit_at store (first + other / 4096)) (other % 4096)
        elsewhere apart = elim (cases_eq (first + other / 4096) at) [
          | inl same ↦
              let differ : other % 4096 ≢ place % 4096 = λ e. apart (omega (arith, e, same)) in
              ap (λ p. is_free_in (unit_at after p) (other % 4096)) same
              ∙ ap (λ u. is_free_in u (other % 4096)) (get_or-set_same store at unit_after [] in_store)
              ∙ free-other (unit_at store at) place free whole' (other % 4096) differ
              ∙ sym (ap (λ p. is_free_in (unit_at store p) (other % 4096)) same)
          | inr differ ↦ ap (λ u. is_free_in u (other % 4096)) (get_or-set_other store at (first + other / 4096) unit_after [] differ)
        ]

    free_after : pro_free (map_of after tree) total ≡ slice_set (pro_free (map_of store tree) total) place free
    free_after = ext_get_or false (pro_free (map_of after tree) total) (slice_set (pro_free (map_of store tree) total) place free)
        (length-free (map_of after tree) total ∙ sym (length-set (pro_free (map_of store tree) total) place free ∙ length-free (map_of store tree) total))
        (λ other inside.
        let inside' : other < total = omega (arith, inside, length-free (map_of after tree) total) in
        free-at (map_of after tree) total other inside' ∙ free_there other inside')

    marked_at : DescribesPro reserved after (remapped directory place free)
    marked_at =
        let size = length-set store at unit_after in
        record {
          size = (omega (arith, size, described.size.0), omega (arith, size, described.size.1));
          tree = tree;
          described = describes_same store after tree size
              (λ block has. get_or-set_other store at block unit_after [] (λ e. is_map_block.1 (subst (Contains tree.blocks) e has))) described.described;
          says = ap (λ (d : Directory). remapped d place free) described.says
              ∙ sym (ap (λ (marks : List Bool). record directory_before { free = marks }) free_after);
        }
      where
        directory_before : Directory
        directory_before = pro_directory reserved tree (map_of store tree)

    pub remap_pro : DescribesPro reserved (slice_set store (map_place directory place) (pro_with_free (unit_at store (map_place directory place)) place free))
        (remapped directory place free)
    remap_pro = subst (λ p. DescribesPro reserved (slice_set store p (pro_with_free (unit_at store p) place free)) (remapped directory place free)) (sym here) marked_at
