-- The entry of an empty directory in a slot of a ProDOS directory: the volume's directory has one entry more, and the block of the new one is the system's.
use Rattle.std.specs.Prelude.{◌≡◌, ◌≢◌, ◌⊎◌, ◌≤◌, ◌<◌, ◌+◌, ◌==◌, not, ◌&&◌, ◌||◌, ℕ, zero, suc, Bool, true, false, List, [], ◌∷◌, length, filter, slice_index_or, slice_set, All, Contains}
use Rattle.std.specs.List.{list_any, range_with_len}
use Rattle.std.proofs.Common.{refl, sym, ◌∙◌, ap, subst, arith, cond, get_or, inl, inr}
use Rattle.std.proofs.lemmas.Bool.{cases_eq, eq-eqb, eqb-true}
use Rattle.std.proofs.lemmas.List.{ext_get_or, length-set, get_or-set_same, get_or-set_other}
use Rattle.a2_device.specs.Device.{unit_at}
use Rattle.pro_dir.specs.declared.entry.Entry.{Entry}
use Rattle.pro_dir.specs.Entry.{slot_bytes}
use Rattle.pro_dir.specs.Volume.{Directory as Tree, Describes, map_blocks, map_first, total_blocks}
use Rattle.vol_format.specs.Directory.{Directory, Listed, entries}
use Rattle.pro_format.specs.Pro.{DescribesPro, available_in, first_available, is_fixed, is_one_of, is_pro_system, map_of, pro_directory, pro_listed, pro_system}
use Rattle.pro_format.specs.lemmas.ProDirectory.{length-listed}
use Rattle.pro_format.specs.lemmas.ProMarks.{map_block, units-same}
use Rattle.pro_format.specs.lemmas.ProSystem.{length-system, system-at}
use Rattle.vol_laws.specs.Inserted.{insert_at, inserted}
use Rattle.pro_format.specs.Filled.{IsNoKey, filled_entry, pro_new}
use Rattle.pro_format.specs.Slots.{IsNoHeader}
use Rattle.file_edits.specs.Leaf.{IsLeafEntered, HasOneLeafMore}
use Rattle.file_edits.specs.WithDirectory.{with_directory}
use Rattle.file_edits.proofs.LeafPaths.{IsElsewhere, listed_grown}
use Rattle.file_edits.proofs.LeafTrees.{tree_grown}

-- an element of a list with one more is that one or was there
pub insert_had : {X : Type 0} (i : ℕ) (x : X) (xs : List X) (y : X) → Contains (insert_at i x xs) y → (y ≡ x) ⊎ Contains xs y
insert_had zero x xs y (zero, within, same) = inl (sym same)
insert_had zero x xs y (suc k, within, same) = inr (k, omega (arith, within), same)
insert_had (suc i) x [] y (zero, within, same) = inl (sym same)
insert_had (suc i) x [] y (suc k, within, same) = inr (absurd (omega (arith, within)))
insert_had (suc i) x (first ∷ xs) y (zero, within, same) = inr (0, omega arith, same)
insert_had (suc i) x (first ∷ xs) y (suc k, within, same) = elim (insert_had i x xs y (k, omega (arith, within), same)) [
  | inl new ↦ inl new
  | inr later ↦ inr (suc later.0, omega (arith, later.1), later.2)
]

-- whether an element of a list with one more passes
any_insert : {X : Type 0} (p : X → Bool) (i : ℕ) (x : X) (xs : List X) → list_any p (insert_at i x xs) ≡ (p x || list_any p xs)
any_insert p zero x xs = refl
any_insert p (suc i) x [] = refl
any_insert p (suc i) x (y ∷ ys) = ap (λ b. p y || b) (any_insert p i x ys) ∙ turned (p y) (p x) (list_any p ys)
  where
    turned : (a b c : Bool) → (a || (b || c)) ≡ (b || (a || c))
    turned true true c = refl
    turned true false c = refl
    turned false b c = refl

-- what passes a test, and of that what passes another
filter_then : {X : Type 0} (p q r : X → Bool) → ((x : X) → r x ≡ (p x && q x)) → (xs : List X) → filter r xs ≡ filter q (filter p xs)
filter_then p q r both [] = refl
filter_then p q r both (x ∷ xs) =
    ap (λ b. cond b (x ∷ filter r xs) (filter r xs)) (both x) ∙ by_test (p x) (filter_then p q r both xs)
  where
    by_test : (b : Bool) → filter r xs ≡ filter q (filter p xs) → cond (b && q x) (x ∷ filter r xs) (filter r xs) ≡ filter q (cond b (x ∷ filter p xs) (filter p xs))
    by_test true rest = ap (λ l. cond (q x) (x ∷ l) l) rest
    by_test false rest = rest

-- the system has one block more
module _ (reserved : List Bool) (tree : Tree) (entries' : List Entry) (block leaf : ℕ) (inside : leaf < total_blocks tree.header) where
  abbrev grown : Tree
  grown = record tree { blocks = insert_at block leaf tree.blocks; entries = entries' }

  one_of_grown : (place : ℕ) → is_one_of (insert_at block leaf tree.blocks) place ≡ ((leaf == place) || is_one_of tree.blocks place)
  one_of_grown place = any_insert (λ b. b == place) block leaf tree.blocks

  system_there : (place : ℕ) → is_pro_system reserved grown place ≡ ((leaf == place) || is_pro_system reserved tree place)
  system_there place = ap (λ b. is_fixed reserved tree place || b) (one_of_grown place) ∙ turned (is_fixed reserved tree place) (leaf == place) (is_one_of tree.blocks place)
    where
      turned : (a b c : Bool) → (a || (b || c)) ≡ (b || (a || c))
      turned true true c = refl
      turned true false c = refl
      turned false b c = refl

  pub system_grown : pro_system reserved grown ≡ slice_set (pro_system reserved tree) leaf true
  system_grown = ext_get_or true (pro_system reserved grown) (slice_set (pro_system reserved tree) leaf true)
      (length-system reserved grown ∙ sym (length-set (pro_system reserved tree) leaf true ∙ length-system reserved tree))
      (λ place within.
      let below : place < total_blocks tree.header = omega (arith, within, length-system reserved grown) in
      system-at reserved grown place below ∙ system_there place ∙ elim (cases_eq place leaf) [
        | inl here ↦
            ap (λ b. b || is_pro_system reserved tree place) (eq-eqb leaf place (sym here))
            ∙ sym (ap (λ n. get_or (slice_set (pro_system reserved tree) leaf true) n true) here
            ∙ get_or-set_same (pro_system reserved tree) leaf true true (omega (arith, inside, length-system reserved tree)))
        | inr differ ↦
            ap (λ b. b || is_pro_system reserved tree place) (other leaf place differ)
            ∙ sym (get_or-set_other (pro_system reserved tree) leaf place true true differ ∙ system-at reserved tree place below)
      ])
    where
      other : (a b : ℕ) → b ≢ a → (a == b) ≡ false
      other a b differ = by_test (a == b) refl
        where
          by_test : (t : Bool) → (a == b) ≡ t → t ≡ false
          by_test true is = absurd (differ (sym (eqb-true a b is)))
          by_test false is = refl

  pub available_grown : available_in (slice_set (pro_system reserved tree) leaf true) ≡ filter (λ other. not (other == leaf)) (available_in (pro_system reserved tree))
  unfolding first_available
  available_grown =
      let system = pro_system reserved tree in
      ap (λ n. filter (λ place. not (slice_index_or (slice_set system leaf true) place true)) (range_with_len 0 n)) (length-set system leaf true)
      ∙ filter_then (λ place. not (slice_index_or system place true)) (λ other. not (other == leaf)) (λ place. not (slice_index_or (slice_set system leaf true) place true))
      (λ place. elim (cases_eq place leaf) [
        | inl here ↦
            ap (λ n. not (get_or (slice_set system leaf true) n true)) here
            ∙ ap not (get_or-set_same system leaf true true (omega (arith, inside, length-system reserved tree)))
            ∙ sym (ap (λ b. not (slice_index_or system place true) && not b) (eq-eqb place leaf here) ∙ never (not (slice_index_or system place true)))
        | inr differ ↦
            ap not (get_or-set_other system leaf place true true differ)
            ∙ sym (ap (λ b. not (slice_index_or system place true) && not b) (other place leaf differ) ∙ always (not (slice_index_or system place true)))
      ]) (range_with_len 0 (length system))
    where
      never : (b : Bool) → (b && false) ≡ false
      never true = refl
      never false = refl

      always : (b : Bool) → (b && true) ≡ b
      always true = refl
      always false = refl

      other : (a b : ℕ) → a ≢ b → (a == b) ≡ false
      other a b differ = by_test (a == b) refl
        where
          by_test : (t : Bool) → (a == b) ≡ t → t ≡ false
          by_test true is = absurd (differ (eqb-true a b is))
          by_test false is = refl

module _ (less more : List (List ℕ)) (place slot leaf : ℕ) (entered : IsLeafEntered less more place slot leaf) (no_header : IsNoHeader place slot 2) where
  header_same : slot_bytes (unit_at more 2) 0 ≡ slot_bytes (unit_at less 2) 0
  header_same = elim (cases_eq 2 place) [
    | inl same ↦ subst (λ p. slot_bytes (unit_at more p) 0 ≡ slot_bytes (unit_at less p) 0) (sym same) (entered.alike.others 0 (λ first. no_header (sym first) (sym same)))
    | inr differ ↦ ap (λ u. slot_bytes u 0) (entered.alike.elsewhere 2 differ)
  ]

  pub describes_grown : (tree : Tree) → Describes less tree
      → ((block : ℕ) → map_first tree.header ≤ block → block < map_first tree.header + map_blocks (length less) → block ≢ leaf)
      → (one : HasOneLeafMore less more place slot leaf tree.blocks tree.entries)
      → Describes more (record tree { blocks = insert_at one.block leaf tree.blocks; entries = insert_at one.at (filled_entry more place slot one.key) tree.entries })
  describes_grown tree described no_map one = record {
    geometry = record {
      kind_is = one.tree.listed.volume.kind_is;
      sizes = one.tree.listed.volume.sizes;
      total = ap total_blocks header_same ∙ described.geometry.total ∙ sym entered.alike.size;
    };
    header = described.header ∙ sym header_same;
    tree = one.tree;
    map = λ block from below.
        let low : block < map_first tree.header + map_blocks (length less) = omega (arith, below, ap map_blocks entered.alike.size) in
        let is = described.map block from low in (
          (is.0.0, omega (arith, is.0.1, entered.alike.size)),
          λ has. elim (insert_had one.block leaf tree.blocks block has) [
            | inl new ↦ no_map block from low new
            | inr was ↦ is.1 was
          ],
        );
  }

  -- A slot of the directories gets the entry of an empty directory: the directory has one entry more, and the block is the system's.
  pub record HasProLeaf (reserved : List Bool) (directory : Directory) (tree : Tree) : Type 0 where
    pub one : HasOneLeafMore less more place slot leaf tree.blocks tree.entries
    pub within : one.at ≤ entries directory
    pub described : DescribesPro reserved more (with_directory directory one.at (pro_new more place slot tree one.key one.at) leaf)

  pub pro_grown : (reserved : List Bool) (directory : Directory) (described : DescribesPro reserved less directory) → Contains described.tree.blocks place
      → IsNoKey place slot described.tree.entries → (Contains described.tree.blocks leaf → ⊥)
      → ((block : ℕ) → map_first described.tree.header ≤ block → block < map_first described.tree.header + map_blocks (length less) → block ≢ leaf)
      → leaf < total_blocks described.tree.header → All (IsElsewhere leaf) described.tree.entries
      → HasProLeaf reserved directory described.tree
  pro_grown reserved directory described has no_key new no_map inside elsewhere =
      let tree = described.tree in
      let total = total_blocks tree.header in
      let one = tree_grown less more place slot leaf entered tree.blocks tree.entries described.described.tree new has no_header no_key in
      let x = filled_entry more place slot one.key in
      let all = insert_at one.at x tree.entries in
      let after : Tree = record tree { blocks = insert_at one.block leaf tree.blocks; entries = all } in
      let before = pro_directory reserved tree (map_of less tree) in
      let units : map_of more after ≡ map_of less tree =
      units-same less more (map_first tree.header) (map_blocks total)
      (λ block from below. entered.alike.elsewhere block (λ e. (map_block reserved less directory described block from below).1 (subst (Contains tree.blocks) (sym e) has))) in
      let listed = listed_grown total one.at x tree.entries leaf entered.key elsewhere one.within in
      let system = system_grown reserved tree all one.block leaf inside in
      let size : length before.listed ≡ length tree.entries = length-listed total tree.entries in
      record {
        one = one;
        within = subst (λ (d : Directory). one.at ≤ entries d) (sym described.says) (let low = one.within in omega (arith, low, size));
        described = subst (λ (d : Directory). DescribesPro reserved more (with_directory d one.at (pro_new more place slot tree one.key one.at) leaf)) (sym described.says) (record {
          size = (omega (arith, entered.alike.size, described.size.0), omega (arith, entered.alike.size, described.size.1));
          tree = after;
          described = describes_grown tree described.described no_map one;
          says = sym (
              ap (pro_directory reserved after) units
              ∙ ap (λ (s : List Bool). record before { listed = pro_listed total all; system = s; available = available_in s }) system
              ∙ ap (λ (l : List Listed). record before { listed = l; system = slice_set before.system leaf true; available = available_in (slice_set before.system leaf true) }) listed
              ∙ ap (λ (a : List ℕ). record (inserted before one.at (pro_new more place slot tree one.key one.at)) { system = slice_set before.system leaf true; available = a })
              (available_grown reserved tree all one.block leaf inside)
              );
        });
      }
