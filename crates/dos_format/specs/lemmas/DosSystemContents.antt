-- The content of the system's units, and where an entry's pointer or a mark was written.
use Rattle.std.specs.Prelude.{◌≡◌, ◌≢◌, ◌<◌, ◌≤◌, ◌⊎◌, ℕ, ◌+◌, ◌-◌, ◌/◌, ◌%◌, ◌==◌, nat_lt, not, ◌&&◌, ◌||◌, if◌then◌else◌, true, false, Bool, List, [], ◌∷◌, length, map, slice_index, All, Contains}
use Rattle.std.specs.List.{range_with_len, list_any}
use Rattle.std.proofs.Common.{refl, sym, ◌∙◌, ap, arith, subst, inl, inr, get_or}
use Rattle.std.proofs.lemmas.Bool.{cases_eq}
use Rattle.std.proofs.lemmas.Bool.Decides.{nat_tests}
use Rattle.std.proofs.lemmas.List.Folds.{list_any_at}
use Rattle.std.proofs.lemmas.List.{get_or_default}
use Rattle.dos_catalog.specs.Writes.{slot_offset}
use Rattle.vol_format.specs.Directory.{Directory, Listed, no_entry, entries, entry_of, map_place, unplaced, IsSameFrame}
use Rattle.dos_format.specs.Dos.{dos_available, DescribesDos, dos_with_root, dos_with_free, has_root_at, marks_cleared, root_at_byte, dos_system_content}
use Rattle.dos_format.specs.lemmas.DosBytes.{byte-with_place_other}
use Rattle.dos_format.specs.lemmas.DosClearing.{marks_cleared-same}
use Rattle.dos_format.specs.lemmas.DosContents.{map_range_same}
use Rattle.dos_format.specs.lemmas.DosDirectory.{available_of}
use Rattle.dos_format.specs.lemmas.DosMarks.{map_place-dos}

-- a byte of the content of a catalog sector
abbrev root_cell : Bool → ℕ → ℕ
root_cell hidden byte = if hidden then 0 else byte

cell-hidden : (hidden : Bool) (byte written : ℕ) → hidden ≡ true → root_cell hidden written ≡ root_cell hidden byte
cell-hidden hidden byte written is = ap (λ h. root_cell h written) is ∙ sym (ap (λ h. root_cell h byte) is)

-- what is hidden of a sector: the two bytes of the pointer of each entry in use
root_hidden : (directory : Directory) (place slot byte : ℕ) → has_root_at directory place slot ≡ true → (byte ≡ slot_offset slot) ⊎ (byte ≡ slot_offset slot + 1)
    → root_at_byte directory place byte ≡ true
root_hidden directory place slot byte has at = by_tests (nat_lt byte 0x0b) (nat_lt ((byte - 0x0b) % 35) 2) refl refl
  where
    here : (byte ≡ slot_offset slot) ⊎ (byte ≡ slot_offset slot + 1) → ((byte - 0x0b) / 35 ≡ slot) × ((byte - 0x0b) % 35 < 2) × (0x0b ≤ byte)
    here (inl first) = (omega (arith, first), omega (arith, first), omega (arith, first))
    here (inr second) = (omega (arith, second), omega (arith, second), omega (arith, second))

    by_tests : (before pointer : Bool) → nat_lt byte 0x0b ≡ before → nat_lt ((byte - 0x0b) % 35) 2 ≡ pointer
        → (not before && pointer && has_root_at directory place ((byte - 0x0b) / 35)) ≡ true
    by_tests true pointer is is' = let low : byte < 0x0b = grind (arith, nat_tests) in absurd (omega (arith, low, (here at).2))
    by_tests false false is is' = let high : 2 ≤ (byte - 0x0b) % 35 = grind (arith, nat_tests) in absurd (omega (arith, high, (here at).1))
    by_tests false true is is' = ap (has_root_at directory place) (here at).0 ∙ has

-- an entry of the directory is one
has_root : (directory : Directory) (file : ℕ) → file < entries directory → has_root_at directory (entry_of directory file).place (entry_of directory file).slot ≡ true
has_root directory file inside = list_any_at
    (λ (entry : Listed). entry.place == (entry_of directory file).place && entry.slot == (entry_of directory file).slot) directory.listed file no_entry inside
    (same_both (entry_of directory file).place (entry_of directory file).slot)
  where
    same_both : (place slot : ℕ) → (place == place && slot == slot) ≡ true
    same_both place slot = by_tests (place == place) (slot == slot) refl refl
      where
        by_tests : (a b : Bool) → (place == place) ≡ a → (slot == slot) ≡ b → (a && b) ≡ true
        by_tests true true is is' = refl
        by_tests true false is is' = let differ : slot ≢ slot = grind (arith, nat_tests) in absurd (differ refl)
        by_tests false b is is' = let differ : place ≢ place = grind (arith, nat_tests) in absurd (differ refl)

-- the VTOC, and the other units
content-vtoc : (directory : Directory) (unit : List ℕ) → dos_system_content directory 272 unit ≡ marks_cleared directory.available unit
unfolding dos_system_content
content-vtoc directory unit = refl

content-other : (directory : Directory) (place : ℕ) (unit : List ℕ) → place ≢ 272
    → dos_system_content directory place unit ≡ map (λ at. root_cell (root_at_byte directory place at) (slice_index unit at)) (range_with_len 0 256)
unfolding dos_system_content
content-other directory place unit apart = by_test (place == 272) refl
  where
    by_test : (vtoc : Bool) → (place == 272) ≡ vtoc
        → (if vtoc then marks_cleared directory.available unit else map (λ at. if root_at_byte directory place at then 0 else slice_index unit at) (range_with_len 0 256))
        ≡ map (λ at. root_cell (root_at_byte directory place at) (slice_index unit at)) (range_with_len 0 256)
    by_test true is = absurd (apart (grind (arith, nat_tests, is)))
    by_test false is = refl

-- an entry's pointer makes no difference
pub root_content : (directory : Directory) (file to : ℕ) (unit : List ℕ) → file < entries directory → (entry_of directory file).place ≢ 272
    → dos_system_content directory (entry_of directory file).place (dos_with_root unit (entry_of directory file).slot to)
    ≡ dos_system_content directory (entry_of directory file).place unit
root_content directory file to unit inside apart =
    content-other directory (entry_of directory file).place (dos_with_root unit (entry_of directory file).slot to) apart
    ∙ map_range_same
    (λ at. root_cell (root_at_byte directory (entry_of directory file).place at) (slice_index (dos_with_root unit (entry_of directory file).slot to) at))
    (λ at. root_cell (root_at_byte directory (entry_of directory file).place at) (slice_index unit at))
    256 cells
    ∙ sym (content-other directory (entry_of directory file).place unit apart)
  where
    cells : (at : ℕ) → at < 256 → root_cell (root_at_byte directory (entry_of directory file).place at) (slice_index (dos_with_root unit (entry_of directory file).slot to) at)
        ≡ root_cell (root_at_byte directory (entry_of directory file).place at) (slice_index unit at)
    cells at below = by_cases (cases_eq at (slot_offset (entry_of directory file).slot)) (cases_eq at (slot_offset (entry_of directory file).slot + 1))
      where
        hidden : (at ≡ slot_offset (entry_of directory file).slot) ⊎ (at ≡ slot_offset (entry_of directory file).slot + 1)
            → root_cell (root_at_byte directory (entry_of directory file).place at) (slice_index (dos_with_root unit (entry_of directory file).slot to) at)
            ≡ root_cell (root_at_byte directory (entry_of directory file).place at) (slice_index unit at)
        hidden there = cell-hidden (root_at_byte directory (entry_of directory file).place at) (slice_index unit at) (slice_index (dos_with_root unit (entry_of directory file).slot to) at)
            (root_hidden directory (entry_of directory file).place (entry_of directory file).slot at (has_root directory file inside) there)

        by_cases : (at ≡ slot_offset (entry_of directory file).slot) ⊎ (at ≢ slot_offset (entry_of directory file).slot)
            → (at ≡ slot_offset (entry_of directory file).slot + 1) ⊎ (at ≢ slot_offset (entry_of directory file).slot + 1)
            → root_cell (root_at_byte directory (entry_of directory file).place at) (slice_index (dos_with_root unit (entry_of directory file).slot to) at)
            ≡ root_cell (root_at_byte directory (entry_of directory file).place at) (slice_index unit at)
        by_cases (inl first) second = hidden (inl first)
        by_cases (inr other) (inl second) = hidden (inr second)
        by_cases (inr other) (inr away) = ap (root_cell (root_at_byte directory (entry_of directory file).place at))
            (byte-with_place_other (slot_offset (entry_of directory file).slot) to unit at other away)

-- the mark of an available place makes no difference
pub mark_content : (data_disk : Bool) (reserved : List Bool) (store : List (List ℕ)) (directory : Directory) (place : ℕ) (free : Bool) (unit : List ℕ)
    → DescribesDos data_disk reserved store directory → Contains directory.available place → length unit ≡ 256
    → dos_system_content directory (map_place directory place) (dos_with_free unit place free) ≡ dos_system_content directory (map_place directory place) unit
mark_content data_disk reserved store directory place free unit described has whole =
    subst (λ p. dos_system_content directory p (dos_with_free unit place free) ≡ dos_system_content directory p unit) (sym here)
    (content-vtoc directory (dos_with_free unit place free)
    ∙ ap (λ places. marks_cleared places (dos_with_free unit place free)) available_is
    ∙ marks_cleared-same (dos_available data_disk reserved) unit place free whole within places_below listed
    ∙ sym (content-vtoc directory unit ∙ ap (λ places. marks_cleared places unit) available_is))
  where
    available_is : directory.available ≡ dos_available data_disk reserved
    available_is = ap (λ (d : Directory). d.available) described.says

    listed : Contains (dos_available data_disk reserved) place
    listed = subst (λ places. Contains places place) available_is has

    within : place < 560
    within = ((available_of data_disk reserved place).0 listed).0

    places_below : All (λ other. other < 560) (dos_available data_disk reserved)
    places_below k d inside =
        ((available_of data_disk reserved (get_or (dos_available data_disk reserved) k d)).0
        (k, inside, get_or_default (dos_available data_disk reserved) k (get_or (dos_available data_disk reserved) k d) d inside)).0

    here : map_place directory place ≡ 272
    here = ap (λ (d : Directory). map_place d place) described.says ∙ map_place-dos place within

-- nor what the entries point to
list_any_same : (test : Listed → Bool) (entries : List Listed) → ((entry : Listed) → test (record entry { root = unplaced entry.root }) ≡ test entry)
    → list_any test (map (λ (entry : Listed). record entry { root = unplaced entry.root }) entries) ≡ list_any test entries
list_any_same test [] same = refl
list_any_same test (entry ∷ entries) same =
    ap (λ b. b || list_any test (map (λ (entry : Listed). record entry { root = unplaced entry.root }) entries)) (same entry)
    ∙ ap (λ b. test entry || b) (list_any_same test entries same)

pub frame_content-dos : (before after : Directory) (place : ℕ) (unit : List ℕ) → IsSameFrame before after
    → dos_system_content after place unit ≡ dos_system_content before place unit
frame_content-dos before after place unit same = by_place (cases_eq place 272)
  where
    has_same : (slot : ℕ) → has_root_at after place slot ≡ has_root_at before place slot
    has_same slot =
        sym (list_any_same (λ (entry : Listed). entry.place == place && entry.slot == slot) after.listed (λ entry. refl))
        ∙ ap (λ (d : Directory). list_any (λ (entry : Listed). entry.place == place && entry.slot == slot) d.listed) same
        ∙ list_any_same (λ (entry : Listed). entry.place == place && entry.slot == slot) before.listed (λ entry. refl)

    by_place : (place ≡ 272) ⊎ (place ≢ 272) → dos_system_content after place unit ≡ dos_system_content before place unit
    by_place (inl vtoc) = subst (λ p. dos_system_content after p unit ≡ dos_system_content before p unit) (sym vtoc)
        (content-vtoc after unit ∙ ap (λ (d : Directory). marks_cleared d.available unit) same ∙ sym (content-vtoc before unit))
    by_place (inr other) =
        content-other after place unit other
        ∙ map_range_same (λ at. root_cell (root_at_byte after place at) (slice_index unit at)) (λ at. root_cell (root_at_byte before place at) (slice_index unit at)) 256
        (λ at below. ap (λ has. root_cell (not (nat_lt at 0x0b) && nat_lt ((at - 0x0b) % 35) 2 && has) (slice_index unit at)) (has_same ((at - 0x0b) / 35)))
        ∙ sym (content-other before place unit other)
