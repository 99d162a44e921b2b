-- The count of files in a directory's header, written: the volume's directory is the same.
use Rattle.std.specs.Prelude.{◌≡◌, ◌<◌, ◌+◌, ◌/◌, ◌==◌, not, ◌&&◌, ◌||◌, ℕ, suc, Bool, true, false, List, [], ◌∷◌, ◌++◌, length, map, filter, slice_index, All, Contains}
use Rattle.std.specs.List.{range_with_len}
use Rattle.std.proofs.Common.{refl, sym, ◌∙◌, ap, subst, arith, get_or, cond, inl, inr}
use Rattle.std.proofs.lemmas.Bool.{cases_eq, eq-eqb}
use Rattle.std.proofs.lemmas.List.{ext_get_or, get_or_default}
use Rattle.std.proofs.lemmas.List.Elements.{All-head, All-tail}
use Rattle.std.proofs.lemmas.List.FromFn.{length-map-range_with_len, get_or-map-range_with_len}
use Rattle.a2_device.specs.Device.{unit_at}
use Rattle.pro_bitmap.specs.Bitmap.{units_in}
use Rattle.pro_dir.specs.declared.entry.Entry.{Entry}
use Rattle.pro_dir.specs.Entry.{entry_at, entries_of, entries_in, is_listed, is_directory, key_of, slot_bytes, storage_of, name_of}
use Rattle.pro_dir.specs.Tree.{Leads, IsRun, IsDirectory, HasBlocks, Lists, IsTree, next_of}
use Rattle.pro_dir.specs.Volume.{Directory as Tree, map_blocks, map_first, total_blocks, volume_header}
use Rattle.pro_dir.specs.Walk.{IsKeyOf}
use Rattle.vol_format.specs.Directory.{Directory}
use Rattle.pro_format.specs.Pro.{DescribesPro, is_fixed_from, is_one_of, map_of, no_slot, available_in, pro_directory, pro_free, pro_listed, pro_system}
use Rattle.pro_format.specs.lemmas.ProMarks.{map_block, units-same}
use Rattle.pro_format.specs.Filled.{IsCounted}
use Rattle.pro_format.proofs.Owners.{one_directory_of}

module _ (old new : List (List ℕ)) (place : ℕ) (counted : IsCounted old new place) where
  next_kept : (block : ℕ) → next_of (unit_at new block) ≡ next_of (unit_at old block)
  next_kept block = elim (cases_eq block place) [
    | inl same ↦ subst (λ p. next_of (unit_at new p) ≡ next_of (unit_at old p)) (sym same) counted.next
    | inr differ ↦ ap next_of (counted.elsewhere block differ)
  ]

  byte_kept : (byte block : ℕ) → slice_index (unit_at new place) byte ≡ slice_index (unit_at old place) byte → slice_index (unit_at new block) byte ≡ slice_index (unit_at old block) byte
  byte_kept byte block kept = elim (cases_eq block place) [
    | inl same ↦ subst (λ p. slice_index (unit_at new p) byte ≡ slice_index (unit_at old p) byte) (sym same) kept
    | inr differ ↦ ap (λ u. slice_index u byte) (counted.elsewhere block differ)
  ]

  leads_kept : (from : ℕ) (blocks : List ℕ) (last : ℕ) → Leads old from blocks last → Leads new from blocks last
  leads_kept from [] last way = way
  leads_kept from (block ∷ rest) last way =
      ((way.0.0, omega (arith, way.0.1, counted.size)), way.1 ∙ sym (next_kept from), leads_kept block rest last way.2)

  directory_kept : (kind key : ℕ) (own : List ℕ) → IsDirectory old kind key own → IsDirectory new kind key own
  directory_kept kind key own is = record {
    run = record {
      rest = is.run.rest;
      last = is.run.last;
      is = is.run.is;
      can_link = (is.run.can_link.0, omega (arith, is.run.can_link.1, counted.size));
      leads = leads_kept key is.run.rest is.run.last is.run.leads;
      ends = next_kept is.run.last ∙ is.run.ends;
    };
    kind_is = ap (λ b. b / 16) (byte_kept 0x04 key counted.kind) ∙ is.kind_is;
    sizes = (byte_kept 0x23 key counted.entry_size ∙ is.sizes.0, byte_kept 0x24 key counted.entry_count ∙ is.sizes.1);
  }

  -- the first slot of the key block is not listed
  header_out : (unit : List ℕ) → is_listed (entry_at place place unit 0) ≡ false
  header_out unit = ap (λ b. not (storage_of (slot_bytes unit 0) == 0) && not (b && true)) (eq-eqb place place refl) ∙ and_false (not (storage_of (slot_bytes unit 0) == 0))
    where
      and_false : (b : Bool) → (b && false) ≡ false
      and_false true = refl
      and_false false = refl

  key_entries : entries_of place place (unit_at new place) ≡ entries_of place place (unit_at old place)
  unfolding entries_of
  key_entries =
      ap (λ b. cond b (of_new 0 ∷ filter is_listed (map of_new (range_with_len 1 12))) (filter is_listed (map of_new (range_with_len 1 12)))) (header_out (unit_at new place))
      ∙ ap (filter is_listed) (ext_get_or no_slot (map of_new (range_with_len 1 12)) (map of_old (range_with_len 1 12))
      (length-map-range_with_len of_new 1 12 ∙ sym (length-map-range_with_len of_old 1 12))
      (λ k within.
      let inside : k < 12 = omega (arith, within, length-map-range_with_len of_new 1 12) in
      get_or-map-range_with_len of_new 1 12 k (1 + k) no_slot inside refl
      ∙ ap (λ (bytes : List ℕ). record { directory = place; place = place; slot = 1 + k; bytes = bytes }) (counted.others (1 + k) (omega arith))
      ∙ sym (get_or-map-range_with_len of_old 1 12 k (1 + k) no_slot inside refl)))
      ∙ sym (ap (λ b. cond b (of_old 0 ∷ filter is_listed (map of_old (range_with_len 1 12))) (filter is_listed (map of_old (range_with_len 1 12)))) (header_out (unit_at old place)))
    where
      of_new : ℕ → Entry
      of_new slot = entry_at place place (unit_at new place) slot

      of_old : ℕ → Entry
      of_old slot = entry_at place place (unit_at old place) slot

  entries_kept : (key : ℕ) (own : List ℕ) → (Contains own place → key ≡ place) → entries_in new key own ≡ entries_in old key own
  entries_kept key [] only = refl
  entries_kept key (block ∷ rest) only =
      ap (λ es. es ++ entries_in new key rest) (elim (cases_eq block place) [
        | inl same ↦
            subst (λ k. entries_of k block (unit_at new block) ≡ entries_of k block (unit_at old block)) (sym (only (0, omega arith, same)))
            (subst (λ b. entries_of place b (unit_at new b) ≡ entries_of place b (unit_at old b)) (sym same) key_entries)
        | inr differ ↦ ap (entries_of key block) (counted.elsewhere block differ)
      ])
      ∙ ap (λ es. entries_of key block (unit_at old block) ++ es) (entries_kept key rest (λ has. only (suc has.0, omega (arith, has.1), has.2)))

  -- directories that have the block have it for their key block
  abbrev IsOnly : Entry → Type 0
  IsOnly entry = is_directory entry ≡ true → (own : List ℕ) → IsRun old (key_of entry) own → Contains own place → key_of entry ≡ place

  own_kept : (directory : Bool) (key : ℕ) (own : List ℕ) → HasBlocks directory old key own → HasBlocks directory new key own
  own_kept true key own is = directory_kept 0x0e key own is
  own_kept false key own none = none

  own_only : (directory : Bool) (key : ℕ) (own : List ℕ) → (directory ≡ true → (bs : List ℕ) → IsRun old key bs → Contains bs place → key ≡ place)
      → HasBlocks directory old key own → Contains own place → key ≡ place
  own_only true key own only is has = only refl own is.run has
  own_only false key own only none has = absurd (let empty = ap length none in omega (arith, has.1, empty))

  lists_kept : (from entries : List Entry) (blocks : List ℕ) (rest : List Entry) → All IsOnly entries → Lists old from entries blocks rest → Lists new from entries blocks rest
  lists_kept from [] blocks rest only so = so
  lists_kept from (entry ∷ entries) blocks rest only so = (
    so.0,
    so.1,
    so.2,
    so.3,
    so.4,
    own_kept (is_directory entry) (key_of entry) so.1 so.5,
    subst (λ es. Lists new (es ++ so.0) entries so.2 rest)
        (sym (entries_kept (key_of entry) so.1 (own_only (is_directory entry) (key_of entry) so.1 (All-head IsOnly entry entries only) so.5)))
        (lists_kept (entries_in old (key_of entry) so.1 ++ so.0) entries so.2 rest (All-tail IsOnly entry entries only) so.6),
  )

  module _ (blocks : List ℕ) (entries : List Entry) (tree : IsTree old blocks entries) (is_key : IsKeyOf entries place) (own : List ℕ) (run : IsRun old place own) where
    its_key : Contains own place
    its_key = subst (λ bs. Contains bs place) (sym run.is) (0, omega arith, refl)

    pub tree_kept : IsTree new blocks entries
    tree_kept = record {
      listed = record {
        own = tree.listed.own;
        later = tree.listed.later;
        is = tree.listed.is;
        volume = directory_kept 0x0f 2 tree.listed.own tree.listed.volume;
        lists = subst (λ es. Lists new es entries tree.listed.later [])
            (sym (entries_kept 2 tree.listed.own (λ has. one_directory_of old blocks entries tree 2 place tree.listed.own own place (inl refl) is_key tree.listed.volume.run run has its_key)))
            (lists_kept (entries_in old 2 tree.listed.own) entries tree.listed.later [] only tree.listed.lists);
      };
      once = tree.once;
    }
      where
        only : All IsOnly entries
        only k d within directory others run' has =
            let entry = get_or entries k d in
            one_directory_of old blocks entries tree (key_of entry) place others own place
            (inr (entry, (k, within, get_or_default entries k entry d within), directory, refl)) is_key run' run has its_key

  header_field : {X : Type 0} (f : List ℕ → X) → f (slot_bytes (unit_at new place) 0) ≡ f (slot_bytes (unit_at old place) 0) → f (volume_header new) ≡ f (volume_header old)
  header_field f same = elim (cases_eq 2 place) [
    | inl here ↦ subst (λ p. f (slot_bytes (unit_at new p) 0) ≡ f (slot_bytes (unit_at old p) 0)) (sym here) same
    | inr differ ↦ ap (λ u. f (slot_bytes u 0)) (counted.elsewhere 2 differ)
  ]

  same_system : (reserved : List Bool) (tree : Tree) (header : List ℕ) → total_blocks header ≡ total_blocks tree.header → map_first header ≡ map_first tree.header
      → pro_system reserved (record tree { header = header }) ≡ pro_system reserved tree
  unfolding pro_system
  same_system reserved tree header total first =
      ap (λ t. map (λ at. is_fixed_from (map_first header) (map_first header + map_blocks t) reserved at || is_one_of tree.blocks at) (range_with_len 0 t)) total
      ∙ ap (λ m. map (λ at. is_fixed_from m (m + map_blocks (total_blocks tree.header)) reserved at || is_one_of tree.blocks at) (range_with_len 0 (total_blocks tree.header))) first

  same_says : (reserved : List Bool) (tree : Tree) (header : List ℕ) → total_blocks header ≡ total_blocks tree.header → map_first header ≡ map_first tree.header → name_of header ≡ name_of tree.header
      → units_in new (map_first tree.header) (map_blocks (total_blocks tree.header)) ≡ units_in old (map_first tree.header) (map_blocks (total_blocks tree.header))
      → pro_directory reserved (record tree { header = header }) (map_of new (record tree { header = header })) ≡ pro_directory reserved tree (map_of old tree)
  same_says reserved tree header total first name units =
      ap (with_all (total_blocks header) (map_first header) (name_of header)) (same_system reserved tree header total first)
      ∙ ap (λ t. with_all t (map_first header) (name_of header) (pro_system reserved tree)) total
      ∙ ap (λ m. with_all (total_blocks tree.header) m (name_of header) (pro_system reserved tree)) first
      ∙ ap (λ n. with_all (total_blocks tree.header) (map_first tree.header) n (pro_system reserved tree)) name
      ∙ ap (λ us. record (with_all (total_blocks tree.header) (map_first tree.header) (name_of tree.header) (pro_system reserved tree)) { free = pro_free us (total_blocks tree.header) }) units
    where
      with_all : ℕ → ℕ → List ℕ → List Bool → Directory
      with_all t m n system = record {
        places = t;
        name = n;
        listed = pro_listed t tree.entries;
        system = system;
        free = pro_free (units_in new m (map_blocks t)) t;
        available = available_in system;
        map_units = range_with_len m (map_blocks t);
        map_size = 4096;
      }

  -- The directory is the same.
  pub count_kept : (reserved : List Bool) (directory : Directory) (described : DescribesPro reserved old directory) → Contains described.tree.blocks place
      → IsKeyOf described.tree.entries place → (own : List ℕ) → IsRun old place own → DescribesPro reserved new directory
  count_kept reserved directory described has is_key own run =
      let tree = described.tree in
      let at = described.described.header in
      let after : Tree = record tree { header = volume_header new } in
      let total : total_blocks (volume_header new) ≡ total_blocks tree.header = header_field total_blocks counted.total ∙ ap total_blocks (sym at) in
      let first : map_first (volume_header new) ≡ map_first tree.header = header_field map_first counted.first ∙ ap map_first (sym at) in
      let name : name_of (volume_header new) ≡ name_of tree.header = header_field name_of counted.name ∙ ap name_of (sym at) in
      let kept = tree_kept tree.blocks tree.entries described.described.tree is_key own run in
      record {
        size = (omega (arith, counted.size, described.size.0), omega (arith, counted.size, described.size.1));
        tree = after;
        described = record {
          geometry = record {
            kind_is = kept.listed.volume.kind_is;
            sizes = kept.listed.volume.sizes;
            total = header_field total_blocks counted.total ∙ described.described.geometry.total ∙ sym counted.size;
          };
          header = refl;
          tree = kept;
          map = λ block from below.
              let is = described.described.map block (omega (arith, from, first)) (omega (arith, below, first, ap map_blocks counted.size)) in
              ((is.0.0, omega (arith, is.0.1, counted.size)), is.1);
        };
        says = described.says ∙ sym (same_says reserved tree (volume_header new) total first name
            (units-same old new (map_first tree.header) (map_blocks (total_blocks tree.header))
            (λ block from below. counted.elsewhere block (λ e. (map_block reserved old directory described block from below).1 (subst (Contains tree.blocks) (sym e) has)))));
      }
