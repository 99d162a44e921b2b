-- One pointer of a list, written: it names the place, and the other pointers name what they named.
use Rattle.std.specs.Prelude.{◌≡◌, ◌≢◌, ◌<◌, ℕ, ◌+◌, ◌*◌, ◌==◌, nat_lt, if◌then◌else◌, Bool, true, false, List, length, slice_index}
use Rattle.std.proofs.Common.{refl, sym, ◌∙◌, ap, arith, subst, ⊎_elim}
use Rattle.std.proofs.lemmas.Bool.Decides.{nat_tests}
use Rattle.a2_device.specs.declared.part.Part.{Part}
use Rattle.a2_device.specs.declared.part.PartKind.{PartKind}
use Rattle.a2_device.specs.declared.part.PartKind.TheVariants.{List as AList, Master, Index, Body}
use Rattle.dos_vtoc.specs.Vtoc.{link_of}
use Rattle.dos_catalog.specs.Writes.{with_place}
use Rattle.dos_tslist.specs.Pointers.{pair_of, pair_offset, link_offset}
use Rattle.vol_format.specs.declared.link.Link.TheVariants.{Null, To}
use Rattle.vol_format.specs.Standing.{at_place}
use Rattle.dos_format.specs.Dos.{link_to, list_link, dos_child, pointer_offset, dos_with_pointer, CanNameDos}
use Rattle.dos_format.specs.lemmas.DosBytes.{byte-with_place_other, pointer_of-same, link_to-written}
use Rattle.dos_format.specs.lemmas.DosLaws.{IsPointedTo, list_link_cases, dos_child-To}

-- a pointer that is written stands in a pair or is the link
pub offset_cases : (P : ℕ → Type 0) (i : ℕ) → (i ≡ 122 → P 1) → (i ≢ 122 → P (0x0c + 2 * i)) → P (pointer_offset i)
offset_cases P i link pair = by_test (i == 122) refl
  where
    by_test : (last : Bool) → (i == 122) ≡ last → P (if last then 1 else (0x0c + 2 * i))
    by_test true is = link (grind (arith, nat_tests))
    by_test false is = pair (grind (arith, nat_tests))

-- the bytes of a pair are not those of another pointer
pub outside_pair : (i j : ℕ) → j ≢ i → j < 122 → (0x0c + 2 * j ≢ pointer_offset i) × (0x0c + 2 * j ≢ pointer_offset i + 1)
    × (0x0d + 2 * j ≢ pointer_offset i) × (0x0d + 2 * j ≢ pointer_offset i + 1)
outside_pair i j apart below =
    offset_cases (λ at. (0x0c + 2 * j ≢ at) × (0x0c + 2 * j ≢ at + 1) × (0x0d + 2 * j ≢ at) × (0x0d + 2 * j ≢ at + 1)) i
    (λ link. ((λ e. omega (arith, e)), (λ e. omega (arith, e)), (λ e. omega (arith, e)), (λ e. omega (arith, e))))
    (λ pair. ((λ e. omega (arith, e, apart)), (λ e. omega (arith, e)), (λ e. omega (arith, e)), (λ e. omega (arith, e, apart))))

-- nor those of the link
pub outside_link : (i : ℕ) → i ≢ 122 → (1 ≢ pointer_offset i) × (1 ≢ pointer_offset i + 1) × (2 ≢ pointer_offset i) × (2 ≢ pointer_offset i + 1)
outside_link i apart =
    offset_cases (λ at. (1 ≢ at) × (1 ≢ at + 1) × (2 ≢ at) × (2 ≢ at + 1)) i
    (λ link. absurd (apart link))
    (λ pair. ((λ e. omega (arith, e)), (λ e. omega (arith, e)), (λ e. omega (arith, e)), (λ e. omega (arith, e))))

module _ (unit : List ℕ) (i place : ℕ) where
  pub pair-other : (j : ℕ) → j ≢ i → j < 122 → pair_of (dos_with_pointer unit i place) j ≡ pair_of unit j
  pair-other j apart below =
      let out = outside_pair i j apart below in
      let second : 0x0c + 2 * j + 1 ≡ 0x0d + 2 * j = omega arith in
      pointer_of-same unit (dos_with_pointer unit i place) (pair_offset j)
      (byte-with_place_other (pointer_offset i) place unit (0x0c + 2 * j) out.0 out.1)
      (subst (λ at. slice_index (dos_with_pointer unit i place) at ≡ slice_index unit at) (sym second)
      (byte-with_place_other (pointer_offset i) place unit (0x0d + 2 * j) out.2 out.3))

  pub link-other : i ≢ 122 → link_of (dos_with_pointer unit i place) ≡ link_of unit
  link-other apart =
      let out = outside_link i apart in
      pointer_of-same unit (dos_with_pointer unit i place) link_offset
      (byte-with_place_other (pointer_offset i) place unit 1 out.0 out.1)
      (byte-with_place_other (pointer_offset i) place unit 2 out.2 out.3)

-- a pointer names the same where the bytes that it is read from say the same
list_link-same : (file number : ℕ) (unit new : List ℕ) (i : ℕ) → (i < 122 → pair_of new i ≡ pair_of unit i) → (i ≡ 122 → link_of new ≡ link_of unit)
    → list_link file number new i ≡ list_link file number unit i
list_link-same file number unit new i pair link = by_tests (nat_lt i 122) (i == 122) refl refl
  where
    by_tests : (below at : Bool) → nat_lt i 122 ≡ below → (i == 122) ≡ at
        → (if below then link_to file Body (122 * number + i) (pair_of new i) else (if at then link_to file AList (number + 1) (link_of new) else Null))
        ≡ (if below then link_to file Body (122 * number + i) (pair_of unit i) else (if at then link_to file AList (number + 1) (link_of unit) else Null))
    by_tests true at below_is at_is = ap (link_to file Body (122 * number + i)) (pair (grind (arith, nat_tests)))
    by_tests false true below_is at_is = ap (link_to file AList (number + 1)) (link (grind (arith, nat_tests)))
    by_tests false false below_is at_is = refl

pub child-elsewhere : (kind : PartKind) (file number : ℕ) (unit : List ℕ) (i j place : ℕ) → j ≢ i
    → dos_child kind file number (dos_with_pointer unit i place) j ≡ dos_child kind file number unit j
child-elsewhere AList file number unit i j place apart =
    list_link-same file number unit (dos_with_pointer unit i place) j (pair-other unit i place j apart)
    (λ last. link-other unit i place (λ e. apart (last ∙ sym e)))
child-elsewhere Master file number unit i j place apart = refl
child-elsewhere Index file number unit i j place apart = refl
child-elsewhere Body file number unit i j place apart = refl

-- the pointer that was written
list_link-here : (file number : ℕ) (unit : List ℕ) (i place : ℕ) (child : Part) → length unit ≡ 256 → CanNameDos place → IsPointedTo file number i child
    → list_link file number (dos_with_pointer unit i place) i ≡ To (at_place child place)
list_link-here file number unit i place child whole named at =
    list_link_cases (λ link. link ≡ To (at_place child place)) file number (dos_with_pointer unit i place) i pair link past
  where
    past : 122 < i → Null ≡ To (at_place child place)
    past more = absurd (⊎_elim (λ pair. omega (arith, pair.pair, more)) (λ last. omega (arith, last.last, more)) at.which)

    to : (kind : PartKind) (n : ℕ) → child.kind ≡ kind → child.number ≡ n
        → To (record { file = file; kind = kind; number = n; place = place }) ≡ To (at_place child place)
    to kind n kind_is number_is =
        ap (λ k. To (record { file = file; kind = k; number = n; place = place })) (sym kind_is)
        ∙ ap (λ m. To (record { file = file; kind = child.kind; number = m; place = place })) (sym number_is)
        ∙ ap (λ f. To (record { file = f; kind = child.kind; number = child.number; place = place })) (sym at.same_file)

    pair : i < 122 → link_to file Body (122 * number + i) (pair_of (dos_with_pointer unit i place) i) ≡ To (at_place child place)
    pair below = offset_cases (λ o. link_to file Body (122 * number + i) (pair_of (with_place o place unit) i) ≡ To (at_place child place)) i
        (λ last. absurd (omega (arith, below, last)))
        (λ _. link_to-written file Body (122 * number + i) (0x0c + 2 * i) place unit named (omega (arith, whole, below))
        ∙ ⊎_elim (λ is. to Body (122 * number + i) is.kind is.body) (λ last. absurd (omega (arith, last.last, below))) at.which)

    link : i ≡ 122 → link_to file AList (number + 1) (link_of (dos_with_pointer unit i place)) ≡ To (at_place child place)
    link last = offset_cases (λ o. link_to file AList (number + 1) (link_of (with_place o place unit)) ≡ To (at_place child place)) i
        (λ _. link_to-written file AList (number + 1) 1 place unit named (omega (arith, whole))
        ∙ ⊎_elim (λ is. absurd (omega (arith, is.pair, last))) (λ is. to AList (number + 1) is.kind is.list) at.which)
        (λ apart. absurd (apart last))

pub child-here : (kind : PartKind) (file number : ℕ) (unit : List ℕ) (i place : ℕ) (child : Part) → length unit ≡ 256 → CanNameDos place
    → dos_child kind file number unit i ≡ To child → dos_child kind file number (dos_with_pointer unit i place) i ≡ To (at_place child place)
child-here kind file number unit i place child whole named is =
    let to = dos_child-To kind file number unit i child is in
    subst (λ k. dos_child k file number (dos_with_pointer unit i place) i ≡ To (at_place child place)) (sym to.0)
    (list_link-here file number unit i place child whole named to.1)
