-- A file's key pointer, written: the directory has that entry pointing to the new place, and else what it had.
use Rattle.std.specs.Prelude.{◌≡◌, ◌≢◌, ◌<◌, ℕ, ◌+◌, ◌*◌, ◌==◌, Bool, true, false, List, [], length, map, drop, slice_index_or, slice_set, Contains}
use Rattle.std.proofs.Common.{refl, sym, ◌∙◌, ap, arith, subst, get_or, inl, inr, length-drop}
use Rattle.std.proofs.lemmas.Bool.{cases_eq, cases_lt}
use Rattle.std.proofs.lemmas.Bool.Decides.{nat_tests}
use Rattle.std.proofs.lemmas.List.{ext_get_or, length-map, length-set, length-take, get_or-map, get_or-set_same, get_or-set_other}
use Rattle.a2_device.specs.Device.{unit_at}
use Rattle.a2_device.specs.declared.part.Part.{Part}
use Rattle.pro_dir.specs.declared.entry.Entry.{Entry}
use Rattle.pro_dir.specs.Entry.{key_of, slot_bytes, storage_of, word}
use Rattle.pro_dir.specs.Paths.{path_of}
use Rattle.pro_dir.specs.Volume.{Directory as Tree, map_blocks, map_first, total_blocks}
use Rattle.pro_tree.specs.Content.{CanNameBlock}
use Rattle.pro_tree.specs.Reach.{pro_root}
use Rattle.pro_tree.specs.lemmas.Roots.{root-here}
use Rattle.vol_format.specs.declared.link.Link.{Link}
use Rattle.vol_format.specs.declared.link.Link.TheVariants.{Directory as ToDirectory, To}
use Rattle.vol_format.specs.Directory.{Directory, Listed, no_entry, entries, entry_of, root_of, turned}
use Rattle.vol_format.specs.Standing.{at_place}
use Rattle.pro_format.specs.Pro.{DescribesPro, available_in, map_of, no_slot, pro_directory, pro_entry, pro_listed, pro_system, pro_with_root}
use Rattle.pro_format.specs.lemmas.ProChanged.{describes_changed}
use Rattle.pro_format.specs.lemmas.ProDescribed.{IsStored, all_apart, block_below, each_stored}
use Rattle.pro_format.specs.lemmas.ProDirectory.{length-listed, listed_at, listed_root}
use Rattle.pro_format.specs.lemmas.ProKeys.{keyed, storage-keyed, without_key-keyed, key-keyed, slot-other}
use Rattle.pro_format.specs.lemmas.ProMarks.{map_block, units-same}
use Rattle.pro_format.specs.lemmas.ProRekeyed.{rekeyed, rekeyed-here, rekeyed-other, rekeyed_keeps, block_kept, paths_rekeyed}
use Rattle.pro_format.specs.lemmas.ProTree.{AreApart}

-- what names a part is no directory's entry
pub file_entry : (places file key : ℕ) (bytes : List ℕ) (part : Part) → pro_root places file (storage_of bytes) key ≡ To part → (storage_of bytes == 13) ≡ false
file_entry places file key bytes part is = by_test (storage_of bytes == 13) refl
  where
    no_part : ToDirectory ≡ To part → ⊥
    no_part e = cc

    by_test : (b : Bool) → (storage_of bytes == 13) ≡ b → (storage_of bytes == 13) ≡ false
    by_test false at = at
    by_test true at =
        let thirteen : storage_of bytes ≡ 13 = grind (arith, nat_tests, at) in
        absurd (no_part (sym (ap (λ s. pro_root places file s key) thirteen) ∙ is))

-- the table of the system's places is not told by the entries
same_system : (reserved : List Bool) (tree : Tree) (others : List Entry) → pro_system reserved (record tree { entries = others }) ≡ pro_system reserved tree
unfolding pro_system
same_system reserved tree others = refl

-- the list of entries with one of them rekeyed
module _ (total : ℕ) (all : List Entry) (apart : (i j : ℕ) (d : Entry) → i < j → j < length all → AreApart (get_or all i d) (get_or all j d)) (file to : ℕ) (part : Part)
    (inside : file < length all) (named : CanNameBlock total to)
    (root : pro_root total file (storage_of (get_or all file no_slot).bytes) (key_of (get_or all file no_slot)) ≡ To part)
    (long : 0x12 < length (get_or all file no_slot).bytes) where
  abbrev entry : Entry
  entry = get_or all file no_slot

  abbrev change : Entry → Entry
  change = rekeyed entry.place entry.slot to

  entry_there : (path : List ℕ) → pro_entry total file path (change entry) ≡ record (pro_entry total file path entry) { root = To (at_place part to) }
  entry_there path =
      ap (pro_entry total file path) (rekeyed-here entry.place entry.slot to entry refl refl (file_entry total file (key_of entry) entry.bytes part root))
      ∙ ap (λ (bytes : List ℕ). record (pro_entry total file path entry) { bytes = bytes; root = pro_root total file (storage_of (keyed to entry.bytes)) (word (keyed to entry.bytes) 0x11) })
      (without_key-keyed to entry.bytes)
      ∙ ap (λ (link : Link). record (pro_entry total file path entry) { root = link })
      (ap (λ s. pro_root total file s (word (keyed to entry.bytes) 0x11)) (storage-keyed to entry.bytes)
      ∙ ap (pro_root total file (storage_of entry.bytes)) (key-keyed to entry.bytes long)
      ∙ root-here total file (storage_of entry.bytes) (key_of entry) to part named root)

  other_entry : (k : ℕ) → k < length all → k ≢ file → change (get_or all k no_slot) ≡ get_or all k no_slot
  other_entry k within differ = rekeyed-other entry.place entry.slot to (get_or all k no_slot) (λ place slot. elim (cases_lt k file) [
    | inl before ↦ apart k file no_slot before inside place slot
    | inr not_before ↦ apart file k no_slot (omega arith) within (sym place) (sym slot)
  ])

  same_path : (k : ℕ) → path_of (map change all) k ≡ path_of all k
  same_path k = ap (λ paths. slice_index_or paths k []) (paths_rekeyed entry.place entry.slot to [] all)

  pub listed_turned : pro_listed total (map change all) ≡ slice_set (pro_listed total all) file (record (slice_index_or (pro_listed total all) file no_entry) { root = To (at_place part to) })
  listed_turned = ext_get_or no_entry (pro_listed total (map change all)) (slice_set (pro_listed total all) file turned_entry)
      (length-listed total (map change all) ∙ length-map all change ∙ sym (length-set (pro_listed total all) file turned_entry ∙ length-listed total all))
      (λ k within. at k (omega (arith, within, length-listed total (map change all), length-map all change)))
    where
      turned_entry : Listed
      turned_entry = record (slice_index_or (pro_listed total all) file no_entry) { root = To (at_place part to) }

      changed_at : (k : ℕ) → k < length all → get_or (pro_listed total (map change all)) k no_entry ≡ pro_entry total k (path_of all k) (change (get_or all k no_slot))
      changed_at k within =
          listed_at total (map change all) k (omega (arith, within, length-map all change))
          ∙ ap (λ path. pro_entry total k path (get_or (map change all) k no_slot)) (same_path k)
          ∙ ap (pro_entry total k (path_of all k)) (get_or-map change all k no_slot no_slot within)

      at : (k : ℕ) → k < length all → get_or (pro_listed total (map change all)) k no_entry ≡ get_or (slice_set (pro_listed total all) file turned_entry) k no_entry
      at k within = changed_at k within ∙ elim (cases_eq k file) [
        | inl same ↦
            ap (λ n. pro_entry total n (path_of all n) (change (get_or all n no_slot))) same
            ∙ entry_there (path_of all file)
            ∙ ap (λ (listed : Listed). record listed { root = To (at_place part to) }) (sym (listed_at total all file inside))
            ∙ sym (ap (λ n. get_or (slice_set (pro_listed total all) file turned_entry) n no_entry) same
            ∙ get_or-set_same (pro_listed total all) file turned_entry no_entry (omega (arith, inside, length-listed total all)))
        | inr differ ↦
            ap (pro_entry total k (path_of all k)) (other_entry k within differ)
            ∙ sym (get_or-set_other (pro_listed total all) file k turned_entry no_entry differ ∙ listed_at total all k within)
      ]

module _ (reserved : List Bool) (store : List (List ℕ)) (directory : Directory) (described : DescribesPro reserved store directory) (file to : ℕ) (part : Part)
    (inside : file < length described.tree.entries) (named : CanNameBlock (total_blocks described.tree.header) to) (entry : Entry)
    (entry_is : entry ≡ get_or described.tree.entries file no_slot)
    (root : pro_root (total_blocks described.tree.header) file (storage_of (get_or described.tree.entries file no_slot).bytes) (key_of (get_or described.tree.entries file no_slot)) ≡ To part)
    (whole : length (unit_at store entry.place) ≡ 512) where
  abbrev tree : Tree
  tree = described.tree

  abbrev total : ℕ
  total = total_blocks described.tree.header

  abbrev after : List (List ℕ)
  after = slice_set store entry.place (pro_with_root (unit_at store entry.place) entry.slot to)

  abbrev changed : List Entry
  changed = map (rekeyed entry.place entry.slot to) tree.entries

  stored : IsStored store tree.blocks entry
  stored = subst (IsStored store tree.blocks) (sym entry_is) (each_stored store tree.blocks tree.entries described.described.tree file no_slot inside)

  below : entry.place < length store
  below = (block_below store tree.blocks tree.entries described.described.tree entry.place stored.has).1

  file_there : (storage_of (slot_bytes (unit_at store entry.place) entry.slot) == 13) ≡ false
  file_there = ap (λ bytes. storage_of bytes == 13) (sym stored.bytes) ∙ ap (λ (e : Entry). storage_of e.bytes == 13) entry_is
      ∙ file_entry total file (key_of (get_or tree.entries file no_slot)) (get_or tree.entries file no_slot).bytes part root

  header_same : slot_bytes (unit_at after 2) 0 ≡ slot_bytes (unit_at store 2) 0
  header_same = elim (cases_eq 2 entry.place) [
    | inl same ↦
        subst (λ p. slot_bytes (unit_at after p) 0 ≡ slot_bytes (unit_at store p) 0) (sym same)
        (ap (λ u. slot_bytes u 0) (get_or-set_same store entry.place (pro_with_root (unit_at store entry.place) entry.slot to) [] below)
        ∙ slot-other (unit_at store entry.place) entry.slot to 0 (λ e. stored.no_header (sym same) (sym e)))
    | inr differ ↦ ap (λ u. slot_bytes u 0) (get_or-set_other store entry.place 2 (pro_with_root (unit_at store entry.place) entry.slot to) [] differ)
  ]

  long : 0x12 < length (get_or tree.entries file no_slot).bytes
  long = omega (
    arith,
    ap length stored.bytes,
    ap (λ (e : Entry). length e.bytes) entry_is,
    length-take 39 (drop (4 + 39 * entry.slot) (unit_at store entry.place)),
    length-drop (4 + 39 * entry.slot) (unit_at store entry.place),
    whole,
    stored.slot,
  )

  units_kept : map_of after (record tree { entries = changed }) ≡ map_of store tree
  units_kept = units-same store after (map_first tree.header) (map_blocks total)
      (λ place from before. get_or-set_other store entry.place place (pro_with_root (unit_at store entry.place) entry.slot to) []
      (λ e. (map_block reserved store directory described place from before).1 (subst (Contains tree.blocks) (sym e) stored.has)))

  listed_after : pro_listed total changed ≡ slice_set (pro_listed total tree.entries) file (record (slice_index_or (pro_listed total tree.entries) file no_entry) { root = To (at_place part to) })
  listed_after =
      ap (λ (e : Entry). pro_listed total (map (rekeyed e.place e.slot to) tree.entries)) entry_is
      ∙ listed_turned total tree.entries (all_apart store tree.blocks tree.entries described.described.tree) file to part inside named root long

  pub turned_at : DescribesPro reserved after (turned (pro_directory reserved tree (map_of store tree)) file (To (at_place part to)))
  turned_at =
      let size = length-set store entry.place (pro_with_root (unit_at store entry.place) entry.slot to) in
      record {
        size = (omega (arith, size, described.size.0), omega (arith, size, described.size.1));
        tree = record tree { entries = changed };
        described = describes_changed (rekeyed entry.place entry.slot to) (rekeyed_keeps entry.place entry.slot to) store after tree size
            (λ block has. block_kept entry.place entry.slot to store block below file_there) header_same described.described;
        says = sym (
            ap (pro_directory reserved (record tree { entries = changed })) units_kept
            ∙ ap (λ system. record directory_before { listed = pro_listed total changed; system = system; available = available_in system }) (same_system reserved tree changed)
            ∙ ap (λ (listed : List Listed). record directory_before { listed = listed }) listed_after
            );
      }
    where
      directory_before : Directory
      directory_before = pro_directory reserved tree (map_of store tree)

-- the key pointer of an entry that names a part can be written
pub turn_pro : (reserved : List Bool) (store : List (List ℕ)) (directory : Directory) (file to : ℕ) (part : Part) → (described : DescribesPro reserved store directory)
    → file < entries directory → root_of directory file ≡ To part → CanNameBlock directory.places to → length (unit_at store (entry_of directory file).place) ≡ 512
    → DescribesPro reserved (slice_set store (entry_of directory file).place (pro_with_root (unit_at store (entry_of directory file).place) (entry_of directory file).slot to))
    (turned directory file (To (at_place part to)))
turn_pro reserved store directory file to part described = subst Turns (sym described.says) (λ within root named whole.
    let rooted = listed_root (total_blocks described.tree.header) described.tree.entries file part root in
    let at = listed_at (total_blocks described.tree.header) described.tree.entries file rooted.inside in
    subst (λ (e : Listed). DescribesPro reserved (slice_set store e.place (pro_with_root (unit_at store e.place) e.slot to))
    (turned (pro_directory reserved described.tree (map_of store described.tree)) file (To (at_place part to)))) (sym at)
    (turned_at reserved store directory described file to part rooted.inside named (get_or described.tree.entries file no_slot) refl rooted.names
    (subst (λ (e : Listed). length (unit_at store e.place) ≡ 512) at whole)))
  where
    Turns : Directory → Type 0
    Turns d = file < entries d → root_of d file ≡ To part → CanNameBlock d.places to → length (unit_at store (entry_of d file).place) ≡ 512
        → DescribesPro reserved (slice_set store (entry_of d file).place (pro_with_root (unit_at store (entry_of d file).place) (entry_of d file).slot to))
        (turned d file (To (at_place part to)))
