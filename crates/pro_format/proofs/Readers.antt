-- What the readers of a ProDOS volume answer.
use Rattle.std.proofs.Common.{◌≡◌, ◌<◌, ◌≤◌, ◌/◌, ◌%◌, ℕ, Bool, true, false, List, length, map, get_or, refl, sym, ◌∙◌, ap, subst, arith}
use Rattle.std.specs.Prelude.{Option, Some, None, IfNone, slice_index_or, All}
use Rattle.std.specs.List.{Contains, range_with_len}
use Rattle.std.proofs.lemmas.List.{get_or_default}
use Rattle.std.proofs.lemmas.List.FromFn.{get_or-map-range_with_len, length-map-range_with_len}
use Rattle.a2_device.specs.Device.{unit_at}
use Rattle.pro_bitmap.specs.Bitmap.{FreeMap, is_free_in}
use Rattle.pro_dir.specs.declared.entry.Entry.{Entry}
use Rattle.pro_dir.specs.Entry.{key_of, storage_of}
use Rattle.pro_dir.specs.Volume.{Directory as Tree, map_first, total_blocks}
use Rattle.pro_dir.specs.Within.{IsWithin}
use Rattle.pro_tree.specs.Reach.{pro_root}
use Rattle.vol_format.specs.declared.link.Link.{Link}
use Rattle.vol_format.specs.Directory.{Listed, entries, entry_of, root_of, is_system, is_free}
use Rattle.pro_format.specs.Pro.{TakesBlocks, is_fixed, pro_system, available_in, pro_free, no_slot, entry_number, directory_with}
use Rattle.pro_format.specs.lemmas.ProDirectory.{length-listed, listed_at, available_of, few_available}
use Rattle.pro_format.specs.lemmas.ProSystem.{length-system, system-at}
use Rattle.pro_format.specs.Sound.{IsFitted}

module _ (system : List Bool) (tree : Tree) (units : List (List ℕ)) where
  pub entries-pro : (shown : List Entry) → shown ≡ tree.entries → length shown ≡ entries (directory_with system tree units)
  entries-pro shown is = ap length is ∙ sym (length-listed (total_blocks tree.header) tree.entries)

  pub within : (shown : List Entry) (file : ℕ) → shown ≡ tree.entries → file < entries (directory_with system tree units) → file < length shown
  within shown file is inside = omega (arith, inside, entries-pro shown is)

  module _ (shown : List Entry) (file : ℕ) (e : Entry) (is : shown ≡ tree.entries) (inside : file < entries (directory_with system tree units)) where
    same_entry : get_or shown file e ≡ slice_index_or tree.entries file no_slot
    same_entry = get_or_default shown file e no_slot (within shown file is inside) ∙ ap (λ es. slice_index_or es file no_slot) is

    listed : entry_of (directory_with system tree units) file ≡ entry_number (total_blocks tree.header) tree.entries file
    listed = listed_at (total_blocks tree.header) tree.entries file (omega (arith, inside, length-listed (total_blocks tree.header) tree.entries))

    pub place-pro : (get_or shown file e).place ≡ (entry_of (directory_with system tree units) file).place
    place-pro = ap (λ (entry : Entry). entry.place) same_entry ∙ sym (ap (λ (entry : Listed). entry.place) listed)

    pub slot-pro : (get_or shown file e).slot ≡ (entry_of (directory_with system tree units) file).slot
    slot-pro = ap (λ (entry : Entry). entry.slot) same_entry ∙ sym (ap (λ (entry : Listed). entry.slot) listed)

    pub root-pro : (link : Link) (places storage key : ℕ) → link ≡ pro_root places file storage key → places ≡ total_blocks tree.header
        → storage ≡ storage_of (get_or shown file e).bytes → key ≡ key_of (get_or shown file e) → link ≡ root_of (directory_with system tree units) file
    root-pro link places storage key link_is places_are storage_is key_is =
        link_is
        ∙ ap (λ n. pro_root n file storage key) places_are
        ∙ ap (λ s. pro_root (total_blocks tree.header) file s key) (storage_is ∙ ap (λ (entry : Entry). storage_of entry.bytes) same_entry)
        ∙ ap (pro_root (total_blocks tree.header) file (storage_of (slice_index_or tree.entries file no_slot).bytes)) (key_is ∙ ap key_of same_entry)
        ∙ sym (ap (λ (entry : Listed). entry.root) listed)

  pub free-pro : (place : ℕ) → place < total_blocks tree.header
      → is_free_in (unit_at units (place / 4096)) (place % 4096) ≡ is_free (directory_with system tree units) place
  unfolding pro_free
  free-pro place below =
      sym (get_or-map-range_with_len (λ p. is_free_in (unit_at units (p / 4096)) (p % 4096)) 0 (total_blocks tree.header) place place false below (omega arith))

  -- a place that has no number is the system's
  pub no_number-pro : (place : ℕ) (number : Option ℕ) (available : List ℕ) → length system ≡ total_blocks tree.header → place < total_blocks tree.header → available ≡ available_in system
      → IfNone number (Contains available place → ⊥) → IfNone number (is_system (directory_with system tree units) place ≡ true)
  no_number-pro place (Some number) available size below is none = tt
  no_number-pro place None available size below is none = by_test (slice_index_or system place true) refl
    where
      by_test : (b : Bool) → slice_index_or system place true ≡ b → slice_index_or system place true ≡ true
      by_test true at = at
      by_test false at = absurd (none (subst (λ xs. Contains xs place) (sym is) ((available_of system place).1 (omega (arith, below, size), at))))

-- the table of the system's places
module _ (reserved : List Bool) (tree : Tree) where
  pub first_below : (places : ℕ) → IsWithin places tree → TakesBlocks places → map_first tree.header < 65536
  first_below places is takes =
      let first = is.map (map_first tree.header) (omega arith) (omega (arith, takes.0)) in
      omega (arith, first.1, takes.1)

  pub few_places : (places : ℕ) (system : List Bool) → IsWithin places tree → TakesBlocks places → system ≡ pro_system reserved tree → length system < 65536
  few_places places system is takes system_is = omega (arith, ap length system_is, length-system reserved tree, is.total, takes.1)

  pub fitted : (places : ℕ) (map : FreeMap) (system : List Bool) (available : List ℕ) → IsWithin places tree → TakesBlocks places → map.first ≡ map_first tree.header
      → map.total ≡ total_blocks tree.header → system ≡ pro_system reserved tree → available ≡ available_in system → IsFitted tree map system available
  fitted places map system available is takes first total system_is available_is = record {
    sound = record {
      places = omega (arith, is.total, takes.1);
      blocks = λ k d inside. omega (arith, is.total, (is.entries k d inside).place);
      slots = λ k d inside. (is.entries k d inside).slot;
      few = is.few;
      map = λ place from below. omega (arith, is.total, (is.map place from (omega (arith, below, is.total))).1);
      size = ap length system_is ∙ length-system reserved tree;
      first = ap (λ t. slice_index_or t 0 true) system_is ∙ system-at reserved tree 0 (omega (arith, is.total, takes.0));
    };
    first = first;
    total = total;
    available_is = available_is;
  }

-- the available places are places
pub below_last : (system : List Bool) (places : List ℕ) (total : ℕ) → places ≡ available_in system → length system ≤ total → All (λ place. place < total) places
below_last system places total is size k d inside =
    let at = ((available_of system (get_or places k d)).0 (subst (λ xs. Contains xs (get_or places k d)) is
    (k, inside, get_or_default places k (get_or places k d) d inside))).0 in
    omega (arith, at, size)

pub few_numbers : (system : List Bool) (places : List ℕ) → places ≡ available_in system → length system < 65536 → length places < 4294967296
few_numbers system places is size = omega (arith, ap length is, few_available system, size)

-- the blocks of the directories have room in the table
pub blocks_below : (reserved : List Bool) (tree : Tree) (places : ℕ) (shown : List ℕ) (fixed : List Bool) → IsWithin places tree → shown ≡ tree.blocks
    → fixed ≡ map (is_fixed reserved tree) (range_with_len 0 (total_blocks tree.header)) → All (λ block. block < length fixed) shown
blocks_below reserved tree places shown fixed is shown_is fixed_is k d inside =
    let has = subst (λ bs. Contains bs (get_or shown k d)) shown_is (k, inside, get_or_default shown k (get_or shown k d) d inside) in
    omega (arith, (is.blocks (get_or shown k d) has).1, is.total, ap length fixed_is, length-map-range_with_len (is_fixed reserved tree) 0 (total_blocks tree.header))
