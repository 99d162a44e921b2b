-- The content of the system's units, and where an entry's key pointer or a mark was written.
use Rattle.std.specs.Prelude.{◌≡◌, ◌≢◌, ◌<◌, ◌≤◌, ◌⊎◌, ℕ, ◌+◌, ◌-◌, ◌/◌, ◌%◌, ◌==◌, nat_lt, not, ◌&&◌, ◌||◌, if◌then◌else◌, true, false, Bool, List, [], ◌∷◌, length, map, slice_index, Contains}
use Rattle.std.specs.List.{range_with_len, list_any}
use Rattle.std.proofs.Common.{refl, sym, ◌∙◌, ap, arith, subst, inl, inr}
use Rattle.std.proofs.lemmas.Bool.{cases_eq, eq-eqb}
use Rattle.std.proofs.lemmas.Bool.Decides.{nat_tests}
use Rattle.std.proofs.lemmas.List.{ext_get_or, get_or_default}
use Rattle.std.proofs.lemmas.List.Folds.{list_any_at}
use Rattle.std.proofs.lemmas.List.FromFn.{length-map-range_with_len, get_or-map-range_with_len, length-range_with_len, get_or-range_with_len}
use Rattle.vol_layout.proofs.Lists.{Contains-has}
use Rattle.a2_device.specs.declared.part.Part.{Part}
use Rattle.pro_dir.specs.Volume.{map_blocks, map_first, total_blocks}
use Rattle.vol_format.specs.declared.link.Link.{Link}
use Rattle.vol_format.specs.declared.link.Link.TheVariants.{Null, Wild, Directory as ToDirectory, OtherType, To}
use Rattle.vol_format.specs.Directory.{Directory, Listed, no_entry, entries, entry_of, root_of, map_place, unplaced, IsSameFrame}
use Rattle.vol_format.proofs.Filters.{in_filter}
use Rattle.pro_format.specs.Pro.{DescribesPro, is_one_of, key_offset, pro_with_root, pro_with_free, bits_cleared, marked_in, names_part, has_root_at, root_at_byte, pro_system_content}
use Rattle.pro_format.specs.lemmas.ProClearing.{bits_cleared-same}
use Rattle.pro_format.specs.lemmas.ProKeys.{byte-with_root}
use Rattle.pro_format.specs.lemmas.ProMarks.{map_block}
use Rattle.pro_format.specs.lemmas.ProSystem.{one_of-has}

map_range_same : (f g : ℕ → ℕ) (n : ℕ) → ((k : ℕ) → k < n → f k ≡ g k) → map f (range_with_len 0 n) ≡ map g (range_with_len 0 n)
map_range_same f g n same = ext_get_or 0 (map f (range_with_len 0 n)) (map g (range_with_len 0 n))
    (length-map-range_with_len f 0 n ∙ sym (length-map-range_with_len g 0 n))
    (λ k within.
    let inside : k < n = omega (arith, within, length-map-range_with_len f 0 n) in
    get_or-map-range_with_len f 0 n k k 0 inside (omega arith) ∙ same k inside ∙ sym (get_or-map-range_with_len g 0 n k k 0 inside (omega arith)))

-- a byte of the content of a directory block
abbrev root_cell : Bool → ℕ → ℕ
root_cell hidden byte = if hidden then 0 else byte

cell-hidden : (hidden : Bool) (byte written : ℕ) → hidden ≡ true → root_cell hidden written ≡ root_cell hidden byte
cell-hidden hidden byte written is = ap (λ h. root_cell h written) is ∙ sym (ap (λ h. root_cell h byte) is)

-- what is hidden of a block: the two bytes of the key pointer of each entry that points to a part
root_hidden : (directory : Directory) (place slot byte : ℕ) → has_root_at directory place slot ≡ true → (byte ≡ key_offset slot) ⊎ (byte ≡ key_offset slot + 1)
    → root_at_byte directory place byte ≡ true
root_hidden directory place slot byte has at = by_tests (nat_lt byte 0x15) (nat_lt ((byte - 0x15) % 39) 2) refl refl
  where
    here : (byte ≡ key_offset slot) ⊎ (byte ≡ key_offset slot + 1) → ((byte - 0x15) / 39 ≡ slot) × ((byte - 0x15) % 39 < 2) × (0x15 ≤ byte)
    here (inl first) = (omega (arith, first), omega (arith, first), omega (arith, first))
    here (inr second) = (omega (arith, second), omega (arith, second), omega (arith, second))

    by_tests : (before pointer : Bool) → nat_lt byte 0x15 ≡ before → nat_lt ((byte - 0x15) % 39) 2 ≡ pointer
        → (not before && pointer && has_root_at directory place ((byte - 0x15) / 39)) ≡ true
    by_tests true pointer is is' = let low : byte < 0x15 = grind (arith, nat_tests) in absurd (omega (arith, low, (here at).2))
    by_tests false false is is' = let high : 2 ≤ (byte - 0x15) % 39 = grind (arith, nat_tests) in absurd (omega (arith, high, (here at).1))
    by_tests false true is is' = ap (has_root_at directory place) (here at).0 ∙ has

-- an entry that points to a part is one
has_root : (directory : Directory) (file : ℕ) (part : Part) → file < entries directory → root_of directory file ≡ To part
    → has_root_at directory (entry_of directory file).place (entry_of directory file).slot ≡ true
has_root directory file part inside root = list_any_at
    (λ (entry : Listed). (entry.place == (entry_of directory file).place && entry.slot == (entry_of directory file).slot) && names_part entry.root) directory.listed file no_entry inside
    (all_three ((entry_of directory file).place == (entry_of directory file).place) ((entry_of directory file).slot == (entry_of directory file).slot) (names_part (root_of directory file))
    (eq-eqb (entry_of directory file).place (entry_of directory file).place refl) (eq-eqb (entry_of directory file).slot (entry_of directory file).slot refl) (ap names_part root))
  where
    all_three : (a b c : Bool) → a ≡ true → b ≡ true → c ≡ true → ((a && b) && c) ≡ true
    all_three true true true is is' is'' = refl
    all_three true true false is is' is'' = absurd (cc)
    all_three true false c is is' is'' = absurd (cc)
    all_three false b c is is' is'' = absurd (cc)

-- the blocks of the map, and the other units
content-map : (directory : Directory) (place : ℕ) (unit : List ℕ) → is_one_of directory.map_units place ≡ true
    → pro_system_content directory place unit ≡ bits_cleared (marked_in directory place) unit
unfolding pro_system_content
content-map directory place unit is = ap
    (λ (b : Bool). if b then bits_cleared (marked_in directory place) unit else map (λ at. if root_at_byte directory place at then 0 else slice_index unit at) (range_with_len 0 512))
    is

content-other : (directory : Directory) (place : ℕ) (unit : List ℕ) → is_one_of directory.map_units place ≡ false
    → pro_system_content directory place unit ≡ map (λ at. root_cell (root_at_byte directory place at) (slice_index unit at)) (range_with_len 0 512)
unfolding pro_system_content
content-other directory place unit is = ap
    (λ (b : Bool). if b then bits_cleared (marked_in directory place) unit else map (λ at. if root_at_byte directory place at then 0 else slice_index unit at) (range_with_len 0 512))
    is

-- an entry's key pointer makes no difference
pub root_content : (directory : Directory) (file to : ℕ) (part : Part) (unit : List ℕ) → file < entries directory → root_of directory file ≡ To part
    → is_one_of directory.map_units (entry_of directory file).place ≡ false
    → pro_system_content directory (entry_of directory file).place (pro_with_root unit (entry_of directory file).slot to)
    ≡ pro_system_content directory (entry_of directory file).place unit
root_content directory file to part unit inside root apart =
    content-other directory (entry_of directory file).place (pro_with_root unit (entry_of directory file).slot to) apart
    ∙ map_range_same
    (λ at. root_cell (root_at_byte directory (entry_of directory file).place at) (slice_index (pro_with_root unit (entry_of directory file).slot to) at))
    (λ at. root_cell (root_at_byte directory (entry_of directory file).place at) (slice_index unit at))
    512 cells
    ∙ sym (content-other directory (entry_of directory file).place unit apart)
  where
    cells : (at : ℕ) → at < 512 → root_cell (root_at_byte directory (entry_of directory file).place at) (slice_index (pro_with_root unit (entry_of directory file).slot to) at)
        ≡ root_cell (root_at_byte directory (entry_of directory file).place at) (slice_index unit at)
    cells at below = by_cases (cases_eq at (key_offset (entry_of directory file).slot)) (cases_eq at (key_offset (entry_of directory file).slot + 1))
      where
        hidden : (at ≡ key_offset (entry_of directory file).slot) ⊎ (at ≡ key_offset (entry_of directory file).slot + 1)
            → root_cell (root_at_byte directory (entry_of directory file).place at) (slice_index (pro_with_root unit (entry_of directory file).slot to) at)
            ≡ root_cell (root_at_byte directory (entry_of directory file).place at) (slice_index unit at)
        hidden there = cell-hidden (root_at_byte directory (entry_of directory file).place at) (slice_index unit at) (slice_index (pro_with_root unit (entry_of directory file).slot to) at)
            (root_hidden directory (entry_of directory file).place (entry_of directory file).slot at (has_root directory file part inside root) there)

        by_cases : (at ≡ key_offset (entry_of directory file).slot) ⊎ (at ≢ key_offset (entry_of directory file).slot)
            → (at ≡ key_offset (entry_of directory file).slot + 1) ⊎ (at ≢ key_offset (entry_of directory file).slot + 1)
            → root_cell (root_at_byte directory (entry_of directory file).place at) (slice_index (pro_with_root unit (entry_of directory file).slot to) at)
            ≡ root_cell (root_at_byte directory (entry_of directory file).place at) (slice_index unit at)
        by_cases (inl first) second = hidden (inl first)
        by_cases (inr other) (inl second) = hidden (inr second)
        by_cases (inr other) (inr away) = ap (root_cell (root_at_byte directory (entry_of directory file).place at))
            (byte-with_root unit (entry_of directory file).slot to at other away)

-- no block of the directories is one of the map's
pub not_of_map : (reserved : List Bool) (store : List (List ℕ)) (directory : Directory) (described : DescribesPro reserved store directory) (place : ℕ) → Contains described.tree.blocks place
    → is_one_of directory.map_units place ≡ false
not_of_map reserved store directory described place has = by_test (is_one_of directory.map_units place) refl
  where
    in_map : Contains (range_with_len (map_first described.tree.header) (map_blocks (total_blocks described.tree.header))) place → ⊥
    in_map at =
        let within : at.0 < map_blocks (total_blocks described.tree.header) = omega (arith, at.1, length-range_with_len (map_first described.tree.header) (map_blocks (total_blocks described.tree.header))) in
        let is = get_or-range_with_len (map_first described.tree.header) (map_blocks (total_blocks described.tree.header)) at.0 place within in
        (map_block reserved store directory described place (omega (arith, is, at.2)) (omega (arith, is, at.2, within))).1 has

    by_test : (b : Bool) → is_one_of directory.map_units place ≡ b → is_one_of directory.map_units place ≡ false
    by_test false is = is
    by_test true is = absurd (in_map (subst (λ units. Contains units place) (ap (λ (d : Directory). d.map_units) described.says) (Contains-has place directory.map_units is)))

-- the mark of an available place makes no difference
pub mark_content : (directory : Directory) (place : ℕ) (free : Bool) (unit : List ℕ) → place / directory.map_size < length directory.map_units → Contains directory.available place → length unit ≡ 512
    → pro_system_content directory (map_place directory place) (pro_with_free unit place free) ≡ pro_system_content directory (map_place directory place) unit
mark_content directory place free unit counted has whole =
    content-map directory (map_place directory place) (pro_with_free unit place free) of_map
    ∙ bits_cleared-same (marked_in directory (map_place directory place)) unit place free whole marked
    ∙ sym (content-map directory (map_place directory place) unit of_map)
  where
    of_map : is_one_of directory.map_units (map_place directory place) ≡ true
    of_map = one_of-has directory.map_units (map_place directory place)
        (place / directory.map_size, counted, get_or_default directory.map_units (place / directory.map_size) (map_place directory place) 0 counted)

    marked : Contains (marked_in directory (map_place directory place)) place
    marked = in_filter (λ p. map_place directory p == map_place directory place) directory.available place has (eq-eqb (map_place directory place) (map_place directory place) refl)

-- nor where the parts stand that the entries point to
list_any_same : (test : Listed → Bool) (entries : List Listed) → ((entry : Listed) → test (record entry { root = unplaced entry.root }) ≡ test entry)
    → list_any test (map (λ (entry : Listed). record entry { root = unplaced entry.root }) entries) ≡ list_any test entries
list_any_same test [] same = refl
list_any_same test (entry ∷ entries) same =
    ap (λ b. b || list_any test (map (λ (entry : Listed). record entry { root = unplaced entry.root }) entries)) (same entry)
    ∙ ap (λ b. test entry || b) (list_any_same test entries same)

names_unplaced : (link : Link) → names_part (unplaced link) ≡ names_part link
names_unplaced Null = refl
names_unplaced Wild = refl
names_unplaced ToDirectory = refl
names_unplaced OtherType = refl
names_unplaced (To part) = refl

pub frame_content-pro : (before after : Directory) (place : ℕ) (unit : List ℕ) → IsSameFrame before after
    → pro_system_content after place unit ≡ pro_system_content before place unit
frame_content-pro before after place unit same = by_map (is_one_of before.map_units place) refl
  where
    units_same : is_one_of after.map_units place ≡ is_one_of before.map_units place
    units_same = ap (λ (d : Directory). is_one_of d.map_units place) same

    test_same : (slot : ℕ) (entry : Listed) → ((entry.place == place && entry.slot == slot) && names_part (unplaced entry.root)) ≡ ((entry.place == place && entry.slot == slot) && names_part entry.root)
    test_same slot entry = ap (λ b. (entry.place == place && entry.slot == slot) && b) (names_unplaced entry.root)

    has_same : (slot : ℕ) → has_root_at after place slot ≡ has_root_at before place slot
    has_same slot =
        sym (list_any_same (λ (entry : Listed). (entry.place == place && entry.slot == slot) && names_part entry.root) after.listed (test_same slot))
        ∙ ap (λ (d : Directory). list_any (λ (entry : Listed). (entry.place == place && entry.slot == slot) && names_part entry.root) d.listed) same
        ∙ list_any_same (λ (entry : Listed). (entry.place == place && entry.slot == slot) && names_part entry.root) before.listed (test_same slot)

    by_map : (b : Bool) → is_one_of before.map_units place ≡ b → pro_system_content after place unit ≡ pro_system_content before place unit
    by_map true is =
        content-map after place unit (units_same ∙ is)
        ∙ ap (λ (d : Directory). bits_cleared (marked_in d place) unit) same
        ∙ sym (content-map before place unit is)
    by_map false is =
        content-other after place unit (units_same ∙ is)
        ∙ map_range_same (λ at. root_cell (root_at_byte after place at) (slice_index unit at)) (λ at. root_cell (root_at_byte before place at) (slice_index unit at)) 512
        (λ at below. ap (λ has. root_cell (not (nat_lt at 0x15) && nat_lt ((at - 0x15) % 39) 2 && has) (slice_index unit at)) (has_same ((at - 0x15) / 39)))
        ∙ sym (content-other before place unit is)
