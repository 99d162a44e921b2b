-- The content of a list, and where one of its pointers was written.
use Rattle.std.specs.Prelude.{◌≡◌, ◌≢◌, ◌<◌, ◌≤◌, ◌⊎◌, ℕ, ◌+◌, ◌*◌, ◌-◌, ◌/◌, ◌==◌, nat_lt, ◌||◌, if◌then◌else◌, true, false, Bool, List, length, map, slice_index, Option, Some, None}
use Rattle.std.specs.List.{range_with_len}
use Rattle.std.proofs.Common.{refl, sym, ◌∙◌, ap, arith, subst, inl, inr, ⊎_elim}
use Rattle.std.proofs.lemmas.Bool.{cases_eq}
use Rattle.std.proofs.lemmas.Bool.Decides.{nat_tests}
use Rattle.std.proofs.lemmas.List.{ext_get_or}
use Rattle.std.proofs.lemmas.List.FromFn.{length-map-range_with_len, get_or-map-range_with_len}
use Rattle.a2_device.specs.declared.part.Part.{Part}
use Rattle.a2_device.specs.declared.part.PartKind.{PartKind}
use Rattle.a2_device.specs.declared.part.PartKind.TheVariants.{List as AList, Body}
use Rattle.dos_vtoc.specs.Vtoc.{link_of}
use Rattle.dos_tslist.specs.Pointers.{pair_of}
use Rattle.vol_format.specs.declared.link.Link.TheVariants.{Null, Wild, To}
use Rattle.vol_format.specs.Standing.{at_place}
use Rattle.dos_format.specs.Dos.{link_to, list_link, dos_child, pointer_offset, pointer_at_byte, names_part, dos_content, dos_with_pointer, CanNameDos}
use Rattle.dos_format.specs.lemmas.DosBytes.{byte-with_place_other}
use Rattle.dos_format.specs.lemmas.DosLaws.{dos_child-To}
use Rattle.dos_format.specs.lemmas.DosPointers.{offset_cases, pair-other, link-other, child-here}

pub map_range_same : (f g : ℕ → ℕ) (n : ℕ) → ((k : ℕ) → k < n → f k ≡ g k) → map f (range_with_len 0 n) ≡ map g (range_with_len 0 n)
map_range_same f g n same = ext_get_or 0 (map f (range_with_len 0 n)) (map g (range_with_len 0 n))
    (length-map-range_with_len f 0 n ∙ sym (length-map-range_with_len g 0 n))
    (λ k within.
    let inside : k < n = omega (arith, within, length-map-range_with_len f 0 n) in
    get_or-map-range_with_len f 0 n k k 0 inside (omega arith) ∙ same k inside ∙ sym (get_or-map-range_with_len g 0 n k k 0 inside (omega arith)))

-- a pointer to a part names one
names_there : (file : ℕ) (kind : PartKind) (number : ℕ) (pointer : Option (ℕ × ℕ)) (part : Part) → link_to file kind number pointer ≡ To part → names_part pointer ≡ true
names_there file kind number None part is = absurd (cc)
names_there file kind number (Some pointer) part is = by_test (nat_lt 34 pointer.0 || nat_lt 15 pointer.1) refl is
  where
    by_test : (wild : Bool) → (nat_lt 34 pointer.0 || nat_lt 15 pointer.1) ≡ wild
        → (if wild then Wild else To (record { file = file; kind = kind; number = number; place = 16 * pointer.0 + pointer.1 })) ≡ To part
        → names_part (Some pointer) ≡ true
    by_test true at is' = absurd (cc)
    by_test false at is' = rw at refl

-- which pointer a byte belongs to
at_byte_cases : (P : (List ℕ → Option (ℕ × ℕ)) → Type 0) (at : ℕ) → ((at ≡ 1) ⊎ (at ≡ 2) → P link_of) → (at < 12 → at ≢ 1 → at ≢ 2 → P (λ unit. None))
    → (12 ≤ at → P (λ unit. pair_of unit ((at - 12) / 2))) → P (λ unit. pointer_at_byte unit at)
at_byte_cases P at link none pair = by_tests (at == 1) (at == 2) (nat_lt at 12) refl refl refl
  where
    by_tests : (first second before : Bool) → (at == 1) ≡ first → (at == 2) ≡ second → nat_lt at 12 ≡ before
        → P (λ unit. if first || second then link_of unit else (if before then None else pair_of unit ((at - 12) / 2)))
    by_tests true second before is is' below = link (inl (grind (arith, nat_tests)))
    by_tests false true before is is' below = link (inr (grind (arith, nat_tests)))
    by_tests false false true is is' below = none (grind (arith, nat_tests)) (grind (arith, nat_tests)) (grind (arith, nat_tests))
    by_tests false false false is is' below = pair (grind (arith, nat_tests))

-- a byte of the content
abbrev cell : Option (ℕ × ℕ) → ℕ → ℕ
cell pointer byte = if names_part pointer then 0 else byte

cell-cleared : (old new : Option (ℕ × ℕ)) (byte written : ℕ) → names_part old ≡ true → names_part new ≡ true → cell new written ≡ cell old byte
cell-cleared old new byte written was is = ap (λ b. if b then 0 else written) is ∙ sym (ap (λ b. if b then 0 else byte) was)

cell-kept : (old new : Option (ℕ × ℕ)) (byte written : ℕ) → new ≡ old → written ≡ byte → cell new written ≡ cell old byte
cell-kept old new byte written pointer same = ap (λ p. cell p written) pointer ∙ ap (cell old) same

module _ (unit : List ℕ) (i place : ℕ) where
  abbrev new : List ℕ
  new = dos_with_pointer unit i place

  byte_kept : (at : ℕ) → at ≢ pointer_offset i → at ≢ pointer_offset i + 1 → slice_index new at ≡ slice_index unit at
  byte_kept at first second = byte-with_place_other (pointer_offset i) place unit at first second

  -- a pair is written
  pair_cells : i < 122 → names_part (pair_of unit i) ≡ true → names_part (pair_of new i) ≡ true → (at : ℕ) → at < 256
      → cell (pointer_at_byte new at) (slice_index new at) ≡ cell (pointer_at_byte unit at) (slice_index unit at)
  pair_cells below was is at inside = at_byte_cases (λ f. cell (f new) (slice_index new at) ≡ cell (f unit) (slice_index unit at)) at
      (λ link. cell-kept (link_of unit) (link_of new) (slice_index unit at) (slice_index new at) (link-other unit i place (λ e. omega (arith, e, below)))
      (⊎_elim (λ e. outside_bytes at (omega (arith, e))) (λ e. outside_bytes at (omega (arith, e))) link))
      (λ before first second. outside_bytes at before)
      (λ behind. elim (cases_eq ((at - 12) / 2) i) [
        | inl same ↦ cell-cleared (pair_of unit ((at - 12) / 2)) (pair_of new ((at - 12) / 2)) (slice_index unit at) (slice_index new at)
            (ap (λ k. names_part (pair_of unit k)) same ∙ was) (ap (λ k. names_part (pair_of new k)) same ∙ is)
        | inr differ ↦ cell-kept (pair_of unit ((at - 12) / 2)) (pair_of new ((at - 12) / 2)) (slice_index unit at) (slice_index new at)
            (pair-other unit i place ((at - 12) / 2) differ (omega (arith, inside)))
            (of_pair at differ behind)
      ])
    where
      outside_bytes : (at : ℕ) → at < 12 → slice_index new at ≡ slice_index unit at
      outside_bytes at before = byte_kept at
          (offset_cases (λ o. at ≢ o) i (λ link. absurd (omega (arith, link, below))) (λ apart e. omega (arith, e, before)))
          (offset_cases (λ o. at ≢ o + 1) i (λ link. absurd (omega (arith, link, below))) (λ apart e. omega (arith, e, before)))

      of_pair : (at : ℕ) → (at - 12) / 2 ≢ i → 12 ≤ at → slice_index new at ≡ slice_index unit at
      of_pair at differ behind = byte_kept at
          (offset_cases (λ o. at ≢ o) i (λ link. absurd (omega (arith, link, below))) (λ apart e. differ (omega (arith, e))))
          (offset_cases (λ o. at ≢ o + 1) i (λ link. absurd (omega (arith, link, below))) (λ apart e. differ (omega (arith, e))))

  -- the link is written
  link_cells : i ≡ 122 → names_part (link_of unit) ≡ true → names_part (link_of new) ≡ true → (at : ℕ) → at < 256
      → cell (pointer_at_byte new at) (slice_index new at) ≡ cell (pointer_at_byte unit at) (slice_index unit at)
  link_cells last was is at inside = at_byte_cases (λ f. cell (f new) (slice_index new at) ≡ cell (f unit) (slice_index unit at)) at
      (λ link. cell-cleared (link_of unit) (link_of new) (slice_index unit at) (slice_index new at) was is)
      (λ before first second. outside_bytes at first second)
      (λ behind. cell-kept (pair_of unit ((at - 12) / 2)) (pair_of new ((at - 12) / 2)) (slice_index unit at) (slice_index new at)
      (pair-other unit i place ((at - 12) / 2) (λ e. omega (arith, e, last, inside)) (omega (arith, inside)))
      (outside_bytes at (λ e. omega (arith, e, behind)) (λ e. omega (arith, e, behind))))
    where
      outside_bytes : (at : ℕ) → at ≢ 1 → at ≢ 2 → slice_index new at ≡ slice_index unit at
      outside_bytes at first second = byte_kept at
          (offset_cases (λ o. at ≢ o) i (λ link. first) (λ apart. absurd (apart last)))
          (offset_cases (λ o. at ≢ o + 1) i (λ link. second) (λ apart. absurd (apart last)))

list_kept : (file number : ℕ) (unit : List ℕ) (i place : ℕ) (child moved : Part) → list_link file number unit i ≡ To child
    → list_link file number (dos_with_pointer unit i place) i ≡ To moved → dos_content AList (dos_with_pointer unit i place) ≡ dos_content AList unit
list_kept file number unit i place child moved was is = by_tests (nat_lt i 122) (i == 122) refl refl was is
  where
    from_cells : ((at : ℕ) → at < 256 → cell (pointer_at_byte (dos_with_pointer unit i place) at) (slice_index (dos_with_pointer unit i place) at) ≡ cell (pointer_at_byte unit at) (slice_index unit at))
        → dos_content AList (dos_with_pointer unit i place) ≡ dos_content AList unit
    from_cells cells = map_range_same
        (λ at. cell (pointer_at_byte (dos_with_pointer unit i place) at) (slice_index (dos_with_pointer unit i place) at))
        (λ at. cell (pointer_at_byte unit at) (slice_index unit at))
        256 cells

    by_tests : (below at : Bool) → nat_lt i 122 ≡ below → (i == 122) ≡ at
        → (if below then link_to file Body (122 * number + i) (pair_of unit i) else (if at then link_to file AList (number + 1) (link_of unit) else Null)) ≡ To child
        → (if below then link_to file Body (122 * number + i) (pair_of (dos_with_pointer unit i place) i)
        else (if at then link_to file AList (number + 1) (link_of (dos_with_pointer unit i place)) else Null)) ≡ To moved
        → dos_content AList (dos_with_pointer unit i place) ≡ dos_content AList unit
    by_tests true at below_is at_is was' is' = from_cells (pair_cells unit i place (grind (arith, nat_tests))
        (names_there file Body (122 * number + i) (pair_of unit i) child was')
        (names_there file Body (122 * number + i) (pair_of (dos_with_pointer unit i place) i) moved is'))
    by_tests false true below_is at_is was' is' = from_cells (link_cells unit i place (grind (arith, nat_tests))
        (names_there file AList (number + 1) (link_of unit) child was')
        (names_there file AList (number + 1) (link_of (dos_with_pointer unit i place)) moved is'))
    by_tests false false below_is at_is was' is' = absurd (cc)

pub content-here : (kind : PartKind) (file number : ℕ) (unit : List ℕ) (i place : ℕ) (child : Part) → length unit ≡ 256 → CanNameDos place
    → dos_child kind file number unit i ≡ To child → dos_content kind (dos_with_pointer unit i place) ≡ dos_content kind unit
content-here kind file number unit i place child whole named is =
    let list : kind ≡ AList = (dos_child-To kind file number unit i child is).0 in
    let moved = child-here kind file number unit i place child whole named is in
    subst (λ k. dos_content k (dos_with_pointer unit i place) ≡ dos_content k unit) (sym list)
    (list_kept file number unit i place child (at_place child place)
    (subst (λ k. dos_child k file number unit i ≡ To child) list is)
    (subst (λ k. dos_child k file number (dos_with_pointer unit i place) i ≡ To (at_place child place)) list moved))
