-- One entry of a directory rewritten: the directory of the volume has that entry under its path and with its bytes, and else what it had.
use Rattle.std.specs.Prelude.{◌≡◌, ◌≢◌, ◌<◌, ℕ, ◌/◌, ◌==◌, Bool, true, false, List, [], length, map, slice_index, slice_index_or, slice_set, Contains, Option}
use Rattle.std.proofs.Common.{refl, sym, ◌∙◌, ap, arith, subst, get_or, inl, inr}
use Rattle.std.proofs.lemmas.Bool.{cases_eq, cases_lt}
use Rattle.std.proofs.lemmas.Bool.Decides.{nat_tests}
use Rattle.std.proofs.lemmas.List.{ext_get_or, length-map, length-set, get_or-map, get_or-set_same, get_or-set_other}
use Rattle.a2_device.specs.Device.{unit_at}
use Rattle.pro_dir.specs.declared.entry.Entry.{Entry}
use Rattle.pro_dir.specs.Entry.{entries_of, key_of, name_of, slot_bytes, storage_of, word}
use Rattle.pro_dir.specs.Paths.{path_of, name_below}
use Rattle.pro_dir.specs.Volume.{Directory as Tree, map_blocks, map_first, total_blocks}
use Rattle.pro_tree.specs.Reach.{pro_root}
use Rattle.vol_format.specs.declared.link.Link.{Link}
use Rattle.vol_format.specs.Directory.{Directory, Listed, no_entry, leads_to_directory}
use Rattle.pro_format.specs.Pro.{DescribesPro, available_in, map_of, no_slot, pro_directory, pro_entry, pro_listed, pro_system, without_key}
use Rattle.pro_format.specs.lemmas.ProDescribed.{IsStored, all_apart, block_below, each_stored}
use Rattle.pro_format.specs.lemmas.ProDirectory.{length-listed, listed_at}
use Rattle.pro_format.specs.lemmas.ProMarks.{map_block, units-same}
use Rattle.pro_format.specs.lemmas.ProTree.{AreApart}
use Rattle.vol_laws.specs.Inserted.{rewritten}
use Rattle.pro_format.specs.Rewritten.{IsRewritten}
use Rattle.pro_format.specs.lemmas.ProChanged.{IsKept, describes_changed}
use Rattle.pro_format.proofs.Spelled.{spelled, with_bytes_of, spelled-here, spelled-other, spelled_keeps, paths_spelled, block_changed, block_unchanged}

-- what is no directory for the volume has no subdirectory's storage type
pub file_listed : (places file storage key : ℕ) → leads_to_directory (pro_root places file storage key) ≡ false → (storage == 13) ≡ false
file_listed places file storage key is = by_test (storage == 13) refl
  where
    by_test : (b : Bool) → (storage == 13) ≡ b → (storage == 13) ≡ false
    by_test false at = at
    by_test true at =
        let thirteen : storage ≡ 13 = grind (arith, nat_tests, at) in
        let leads : leads_to_directory (pro_root places file storage key) ≡ true = ap (λ s. leads_to_directory (pro_root places file s key)) thirteen in
        absurd (cc (leads, is))

-- the table of the system's places is not told by the entries
pub system_same : (reserved : List Bool) (tree : Tree) (others : List Entry) → pro_system reserved (record tree { entries = others }) ≡ pro_system reserved tree
unfolding pro_system
system_same reserved tree others = refl

-- the list of entries with the bytes of one of them others
module _ (total : ℕ) (all : List Entry) (apart : (i j : ℕ) (d : Entry) → i < j → j < length all → AreApart (get_or all i d) (get_or all j d)) (file : ℕ) (bytes path : List ℕ)
    (inside : file < length all) (is_file : (storage_of (get_or all file no_slot).bytes == 13) ≡ false)
    (storage : storage_of bytes ≡ storage_of (get_or all file no_slot).bytes) (key : word bytes 0x11 ≡ key_of (get_or all file no_slot))
    (path_is : (above : Option (List ℕ)) → path_of all file ≡ name_below above (name_of (get_or all file no_slot).bytes) → path ≡ name_below above (name_of bytes)) where
  abbrev entry : Entry
  entry = get_or all file no_slot

  abbrev change : Entry → Entry
  change = spelled entry.place entry.slot bytes

  file_after : (storage_of bytes == 13) ≡ false
  file_after = ap (λ s. s == 13) storage ∙ is_file

  here : change entry ≡ with_bytes_of bytes entry
  here = spelled-here entry.place entry.slot bytes entry refl refl is_file

  entry_there : (to : List ℕ) → pro_entry total file to (change entry) ≡ record (pro_entry total file path entry) { path = to; bytes = without_key bytes }
  entry_there to =
      ap (pro_entry total file to) here
      ∙ ap (λ (link : Link). record (pro_entry total file to entry) { bytes = without_key bytes; root = link })
      (ap (λ s. pro_root total file s (word bytes 0x11)) storage ∙ ap (pro_root total file (storage_of entry.bytes)) key)

  other_entry : (k : ℕ) → k < length all → k ≢ file → change (get_or all k no_slot) ≡ get_or all k no_slot
  other_entry k within differ = spelled-other entry.place entry.slot bytes (get_or all k no_slot) (λ place slot. elim (cases_lt k file) [
    | inl before ↦ apart k file no_slot before inside place slot
    | inr not_before ↦ apart file k no_slot (omega arith) within (sym place) (sym slot)
  ])

  other_path : (k : ℕ) → k < length all → k ≢ file → path_of (map change all) k ≡ path_of all k
  other_path k within differ =
      let same = paths_spelled entry.place entry.slot bytes file_after [] all k within in
      same.after ∙ ap (λ (e : Entry). name_below same.above (name_of e.bytes)) (other_entry k within differ) ∙ sym same.before

  new_path : path_of (map change all) file ≡ path
  new_path =
      let same = paths_spelled entry.place entry.slot bytes file_after [] all file inside in
      same.after ∙ ap (λ (e : Entry). name_below same.above (name_of e.bytes)) here ∙ sym (path_is same.above same.before)

  abbrev listed_before : Listed
  listed_before = slice_index_or (pro_listed total all) file no_entry

  abbrev listed_new : Listed
  listed_new = record listed_before { path = path; bytes = without_key bytes }

  pub listed_rewritten : pro_listed total (map change all) ≡ slice_set (pro_listed total all) file listed_new
  listed_rewritten = ext_get_or no_entry (pro_listed total (map change all)) (slice_set (pro_listed total all) file listed_new)
      (length-listed total (map change all) ∙ length-map all change ∙ sym (length-set (pro_listed total all) file listed_new ∙ length-listed total all))
      (λ k within. at k (omega (arith, within, length-listed total (map change all), length-map all change)))
    where
      changed_at : (k : ℕ) → k < length all → get_or (pro_listed total (map change all)) k no_entry ≡ pro_entry total k (path_of (map change all) k) (change (get_or all k no_slot))
      changed_at k within =
          listed_at total (map change all) k (omega (arith, within, length-map all change))
          ∙ ap (pro_entry total k (path_of (map change all) k)) (get_or-map change all k no_slot no_slot within)

      at : (k : ℕ) → k < length all → get_or (pro_listed total (map change all)) k no_entry ≡ get_or (slice_set (pro_listed total all) file listed_new) k no_entry
      at k within = changed_at k within ∙ elim (cases_eq k file) [
        | inl same ↦
            ap (λ n. pro_entry total n (path_of (map change all) n) (change (get_or all n no_slot))) same
            ∙ entry_there (path_of (map change all) file)
            ∙ ap (λ (to : List ℕ). record (pro_entry total file path entry) { path = to; bytes = without_key bytes }) new_path
            ∙ ap (λ (listed : Listed). record listed { path = path; bytes = without_key bytes }) (sym (listed_at total all file inside))
            ∙ sym (ap (λ n. get_or (slice_set (pro_listed total all) file listed_new) n no_entry) same
            ∙ get_or-set_same (pro_listed total all) file listed_new no_entry (omega (arith, inside, length-listed total all)))
        | inr differ ↦
            ap (λ to. pro_entry total k to (change (get_or all k no_slot))) (other_path k within differ)
            ∙ ap (pro_entry total k (path_of all k)) (other_entry k within differ)
            ∙ sym (get_or-set_other (pro_listed total all) file k listed_new no_entry differ ∙ listed_at total all k within)
      ]

-- the store with the block of an entry rewritten
module _ (reserved : List Bool) (store : List (List ℕ)) (directory : Directory) (described : DescribesPro reserved store directory) (file : ℕ)
    (inside : file < length described.tree.entries) (unit path : List ℕ) (entry : Entry)
    (entry_is : entry ≡ get_or described.tree.entries file no_slot) (is_file : (storage_of entry.bytes == 13) ≡ false)
    (rewrite : IsRewritten (unit_at store entry.place) unit entry.slot)
    (path_is : (above : Option (List ℕ)) → path_of described.tree.entries file ≡ name_below above (name_of entry.bytes)
    → path ≡ name_below above (name_of (slot_bytes unit entry.slot))) where
  abbrev tree : Tree
  tree = described.tree

  abbrev total : ℕ
  total = total_blocks described.tree.header

  abbrev after : List (List ℕ)
  after = slice_set store entry.place unit

  abbrev bytes : List ℕ
  bytes = slot_bytes unit entry.slot

  abbrev changed : List Entry
  changed = map (spelled entry.place entry.slot bytes) tree.entries

  stored : IsStored store tree.blocks entry
  stored = subst (IsStored store tree.blocks) (sym entry_is) (each_stored store tree.blocks tree.entries described.described.tree file no_slot inside)

  below : entry.place < length store
  below = (block_below store tree.blocks tree.entries described.described.tree entry.place stored.has).1

  there : unit_at after entry.place ≡ unit
  there = get_or-set_same store entry.place unit [] below

  storage : storage_of bytes ≡ storage_of entry.bytes
  storage = rewrite.storage ∙ ap storage_of (sym stored.bytes)

  key : word bytes 0x11 ≡ key_of entry
  key = rewrite.key ∙ ap (λ bs. word bs 0x11) (sym stored.bytes)

  still_file : (storage_of bytes == 13) ≡ false
  still_file = ap (λ s. s == 13) storage ∙ is_file

  block_kept : (block : ℕ) → IsKept (spelled entry.place entry.slot bytes) store after block
  block_kept block = elim (cases_eq block entry.place) [
    | inl same ↦ subst (IsKept (spelled entry.place entry.slot bytes) store after) (sym same) (record {
      next = ap (λ u. word u 2) there ∙ rewrite.next;
      kind = ap (λ u. slice_index u 0x04 / 16) there ∙ rewrite.kind;
      entry_size = ap (λ u. slice_index u 0x23) there ∙ rewrite.entry_size;
      entry_count = ap (λ u. slice_index u 0x24) there ∙ rewrite.entry_count;
      entries = λ of. ap (entries_of of entry.place) there
          ∙ block_changed entry.place entry.slot bytes still_file (unit_at store entry.place) unit refl rewrite.others rewrite.storage of;
    })
    | inr differ ↦
        let at = get_or-set_other store entry.place block unit [] differ in record {
          next = ap (λ u. word u 2) at;
          kind = ap (λ u. slice_index u 0x04 / 16) at;
          entry_size = ap (λ u. slice_index u 0x23) at;
          entry_count = ap (λ u. slice_index u 0x24) at;
          entries = λ of. ap (entries_of of block) at ∙ block_unchanged entry.place entry.slot bytes still_file of block (unit_at store block) differ;
        }
  ]

  header_same : slot_bytes (unit_at after 2) 0 ≡ slot_bytes (unit_at store 2) 0
  header_same = elim (cases_eq 2 entry.place) [
    | inl same ↦
        subst (λ p. slot_bytes (unit_at after p) 0 ≡ slot_bytes (unit_at store p) 0) (sym same)
        (ap (λ u. slot_bytes u 0) there ∙ rewrite.others 0 (λ e. stored.no_header (sym same) (sym e)))
    | inr differ ↦ ap (λ u. slot_bytes u 0) (get_or-set_other store entry.place 2 unit [] differ)
  ]

  units_kept : map_of after (record tree { entries = changed }) ≡ map_of store tree
  units_kept = units-same store after (map_first tree.header) (map_blocks total)
      (λ place from before. get_or-set_other store entry.place place unit []
      (λ e. (map_block reserved store directory described place from before).1 (subst (Contains tree.blocks) (sym e) stored.has)))

  abbrev listed_after : Listed
  listed_after = record (slice_index_or (pro_listed total tree.entries) file no_entry) { path = path; bytes = without_key bytes }

  listed_is : pro_listed total changed ≡ slice_set (pro_listed total tree.entries) file listed_after
  listed_is =
      ap (λ (e : Entry). pro_listed total (map (spelled e.place e.slot bytes) tree.entries)) entry_is
      ∙ listed_rewritten total tree.entries (all_apart store tree.blocks tree.entries described.described.tree) file bytes path inside
      (ap (λ (e : Entry). storage_of e.bytes == 13) (sym entry_is) ∙ is_file)
      (storage ∙ ap (λ (e : Entry). storage_of e.bytes) entry_is) (key ∙ ap key_of entry_is)
      (λ above is. path_is above (is ∙ ap (λ (e : Entry). name_below above (name_of e.bytes)) (sym entry_is)))

  pub rewritten_at : DescribesPro reserved after (rewritten (pro_directory reserved tree (map_of store tree)) file path (without_key bytes))
  rewritten_at =
      let size = length-set store entry.place unit in
      record {
        size = (omega (arith, size, described.size.0), omega (arith, size, described.size.1));
        tree = record tree { entries = changed };
        described = describes_changed (spelled entry.place entry.slot bytes) (spelled_keeps entry.place entry.slot bytes still_file) store after tree size
            (λ block has. block_kept block) header_same described.described;
        says = sym (
            ap (pro_directory reserved (record tree { entries = changed })) units_kept
            ∙ ap (λ system. record directory_before { listed = pro_listed total changed; system = system; available = available_in system }) (system_same reserved tree changed)
            ∙ ap (λ (listed : List Listed). record directory_before { listed = listed }) listed_is
            );
      }
    where
      directory_before : Directory
      directory_before = pro_directory reserved tree (map_of store tree)
