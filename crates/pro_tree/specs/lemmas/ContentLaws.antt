-- The content of an index stays where one of its pointers to parts is set to name another place.
use Rattle.std.specs.Prelude.{◌≡◌, ◌<◌, ◌≤◌, ℕ, ◌+◌, ◌*◌, ◌%◌, ◌==◌, nat_lt, not, ◌&&◌, if◌then◌else◌, Bool, true, false, List, length, map, slice_index}
use Rattle.std.specs.List.{range_with_len}
use Rattle.std.proofs.Common.{refl, sym, ◌∙◌, ap, arith, subst, inl, inr}
use Rattle.std.proofs.lemmas.Bool.{cases_eq}
use Rattle.std.proofs.lemmas.Bool.Decides.{nat_tests}
use Rattle.std.proofs.lemmas.List.{ext_get_or}
use Rattle.std.proofs.lemmas.List.FromFn.{length-map-range_with_len, get_or-map-range_with_len}
use Rattle.a2_device.specs.declared.part.Part.{Part}
use Rattle.a2_device.specs.declared.part.PartKind.{PartKind}
use Rattle.a2_device.specs.declared.part.PartKind.TheVariants.{List as AList, Master, Index, Body}
use Rattle.vol_format.specs.declared.link.Link.TheVariants.{To}
use Rattle.pro_tree.specs.Pointers.{pointer_of, with_pointer}
use Rattle.pro_tree.specs.lemmas.PointerLaws.{byte-other, pointer-here, pointer-other}
use Rattle.pro_tree.specs.Reach.{link_below, pro_child}
use Rattle.pro_tree.specs.lemmas.ReachLaws.{pro_link-To, link_below-cases, link_below-To}
use Rattle.pro_tree.specs.Content.{CanNameBlock, names_part, pro_with_pointer, is_of_part, cleared, pro_content}
use Rattle.pro_tree.specs.lemmas.Written.{pro_with_pointer-is}

map_range_same : (f g : ℕ → ℕ) (n : ℕ) → ((k : ℕ) → k < n → f k ≡ g k) → map f (range_with_len 0 n) ≡ map g (range_with_len 0 n)
map_range_same f g n same = ext_get_or 0 (map f (range_with_len 0 n)) (map g (range_with_len 0 n))
    (length-map-range_with_len f 0 n ∙ sym (length-map-range_with_len g 0 n))
    (λ k within.
    let inside : k < n = omega (arith, within, length-map-range_with_len f 0 n) in
    get_or-map-range_with_len f 0 n k k 0 inside (omega arith) ∙ same k inside ∙ sym (get_or-map-range_with_len g 0 n k k 0 inside (omega arith)))

names_part-true : (places block : ℕ) → 0 < block → block < places → names_part places block ≡ true
names_part-true places block some inside = by_tests (block == 0) (nat_lt block places) refl refl
  where
    by_tests : (none below : Bool) → (block == 0) ≡ none → nat_lt block places ≡ below → (not none && below) ≡ true
    by_tests true below none_is below_is = absurd (grind (arith, nat_tests, some))
    by_tests false true none_is below_is = refl
    by_tests false false none_is below_is = absurd (grind (arith, nat_tests, inside))

-- the bytes of one of the first pointers are hidden where it names a part
of_part-true : (places width : ℕ) (unit : List ℕ) (i at : ℕ) → at % 256 ≡ i → i < width → names_part places (pointer_of unit i) ≡ true
    → is_of_part places width unit at ≡ true
of_part-true places width unit i at of inside names =
    subst (λ k. (nat_lt k width && names_part places (pointer_of unit k)) ≡ true) (sym of) (by_test (nat_lt i width) refl)
  where
    by_test : (below : Bool) → nat_lt i width ≡ below → (below && names_part places (pointer_of unit i)) ≡ true
    by_test true is = names
    by_test false is = absurd (grind (arith, nat_tests, inside))

-- a byte of the content
abbrev cell : Bool → ℕ → ℕ
cell hidden byte = if hidden then 0 else byte

module _ (places width : ℕ) (unit : List ℕ) (i block : ℕ) (few : width ≤ 256) (inside : i < width) where
  abbrev new : List ℕ
  new = with_pointer i block unit

  cell-same : names_part places (pointer_of unit i) ≡ true → names_part places (pointer_of new i) ≡ true → (at : ℕ)
      → cell (is_of_part places width new at) (slice_index new at) ≡ cell (is_of_part places width unit at) (slice_index unit at)
  cell-same was is at = elim (cases_eq (at % 256) i) [
    | inl of ↦ ap (λ h. cell h (slice_index new at)) (of_part-true places width new i at of inside is)
        ∙ sym (ap (λ h. cell h (slice_index unit at)) (of_part-true places width unit i at of inside was))
    | inr apart ↦ ap (λ p. cell (nat_lt (at % 256) width && names_part places p) (slice_index new at))
        (pointer-other unit i (at % 256) block (omega (arith, few, inside)) (omega arith) apart)
        ∙ ap (cell (is_of_part places width unit at))
        (byte-other i block unit at (λ e. apart (omega (arith, e, few, inside))) (λ e. apart (omega (arith, e, few, inside))))
  ]

  cleared-same : names_part places (pointer_of unit i) ≡ true → names_part places (pointer_of new i) ≡ true → cleared places width new ≡ cleared places width unit
  unfolding cleared
  cleared-same was is = map_range_same
      (λ at. cell (is_of_part places width new at) (slice_index new at)) (λ at. cell (is_of_part places width unit at) (slice_index unit at)) 512
      (λ at within. cell-same was is at)

-- a pointer to a part names one
names_there : (width : ℕ) (kind : PartKind) (places file number : ℕ) (unit : List ℕ) (i : ℕ) (part : Part)
    → link_below width kind places file number unit i ≡ To part → names_part places (pointer_of unit i) ≡ true
names_there width kind places file number unit i part =
    link_below-cases (λ link. link ≡ To part → names_part places (pointer_of unit i) ≡ true) width kind places file number unit i
    (λ within is. let named = pro_link-To places file kind (width * number + i) (pointer_of unit i) part is in
    names_part-true places (pointer_of unit i) named.some named.in_range)
    (λ past is. absurd (cc))

module _ (places : ℕ) (file number : ℕ) (unit : List ℕ) (i block : ℕ) (child : Part) (whole : length unit ≡ 512) (named : CanNameBlock places block) where
  cleared-here : (width : ℕ) (kind : PartKind) → width ≤ 256 → link_below width kind places file number unit i ≡ To child
      → cleared places width (pro_with_pointer unit i block) ≡ cleared places width unit
  cleared-here width kind few is =
      let below : i < width = (link_below-To width kind places file number unit i child is).pointer in
      let inside : i < 256 = omega (arith, below, few) in
      ap (cleared places width) (pro_with_pointer-is unit i block inside)
      ∙ cleared-same places width unit i block few below
      (names_there width kind places file number unit i child is)
      (ap (names_part places) (pointer-here unit i block whole inside) ∙ names_part-true places block named.0 named.1)

  pub pro_content_kept : (kind : PartKind) → pro_child places kind file number unit i ≡ To child
      → pro_content places kind (pro_with_pointer unit i block) ≡ pro_content places kind unit
  pro_content_kept Master is = cleared-here 128 Index (omega arith) is
  pro_content_kept Index is = cleared-here 256 Body (omega arith) is
  pro_content_kept AList is = absurd (cc)
  pro_content_kept Body is = absurd (cc)

pub pro_content_of_body : (places : ℕ) (kind : PartKind) (unit : List ℕ) → kind ≡ Body → pro_content places kind unit ≡ unit
pro_content_of_body places kind unit body = ap (λ k. pro_content places k unit) body
