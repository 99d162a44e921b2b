-- One pointer of an index, written: it names the block, the other pointers name what they named, and the rest of the index stays.
use Rattle.std.specs.Prelude.{◌≡◌, ◌≢◌, ◌<◌, ◌≤◌, ℕ, ◌+◌, ◌*◌, nat_lt, if◌then◌else◌, Bool, true, false, List, length}
use Rattle.std.proofs.Common.{refl, sym, ◌∙◌, ap, arith, subst, inl, inr, ⊎_elim}
use Rattle.std.proofs.lemmas.Bool.Decides.{nat_tests}
use Rattle.a2_device.specs.declared.part.Part.{Part}
use Rattle.a2_device.specs.declared.part.PartKind.{PartKind}
use Rattle.a2_device.specs.declared.part.PartKind.TheVariants.{List as AList, Master, Index, Body}
use Rattle.vol_format.specs.declared.link.Link.TheVariants.{Null, To}
use Rattle.vol_format.specs.Standing.{at_place}
use Rattle.pro_tree.specs.Pointers.{pointer_of, with_pointer}
use Rattle.pro_tree.specs.lemmas.PointerLaws.{length-with_pointer, pointer-here, pointer-other}
use Rattle.pro_tree.specs.Reach.{pro_link, link_below, pro_child, pro_rank}
use Rattle.pro_tree.specs.lemmas.ReachLaws.{link_below-cases, IsChildOf, pro_child-To, child_cases}
use Rattle.pro_tree.specs.lemmas.Roots.{link-moved}
use Rattle.pro_tree.specs.Content.{CanNameBlock, pro_with_pointer, pro_slot}

-- what an index with a pointer written is
pub written_cases : (P : List ℕ → Type 0) (unit : List ℕ) (i block : ℕ) → (i < 256 → P (with_pointer i block unit)) → (256 ≤ i → P unit) → P (pro_with_pointer unit i block)
written_cases P unit i block within past = by_test (nat_lt i 256) refl
  where
    by_test : (below : Bool) → nat_lt i 256 ≡ below → P (if below then with_pointer i block unit else unit)
    by_test true is = within (grind (arith, nat_tests))
    by_test false is = past (grind (arith, nat_tests))

pub pro_with_pointer-is : (unit : List ℕ) (i block : ℕ) → i < 256 → pro_with_pointer unit i block ≡ with_pointer i block unit
pro_with_pointer-is unit i block inside =
    written_cases (λ new. new ≡ with_pointer i block unit) unit i block (λ within. refl) (λ past. absurd (omega (arith, past, inside)))

pub pro_pointer_length : (unit : List ℕ) (i block : ℕ) → length (pro_with_pointer unit i block) ≡ length unit
pro_pointer_length unit i block =
    written_cases (λ new. length new ≡ length unit) unit i block (λ within. length-with_pointer i block unit) (λ past. refl)

pub written-other : (unit : List ℕ) (i j block : ℕ) → j < 256 → j ≢ i → pointer_of (pro_with_pointer unit i block) j ≡ pointer_of unit j
written-other unit i j block inside apart =
    written_cases (λ new. pointer_of new j ≡ pointer_of unit j) unit i block (λ within. pointer-other unit i j block within inside apart) (λ past. refl)

-- Which pointer names a part: a part has one, and the kind and the number of the part tell it.
pub pro_child_slot : (places : ℕ) (part child : Part) (unit : List ℕ) (i : ℕ) → pro_child places part.kind part.file part.number unit i ≡ To child
    → i ≡ pro_slot child.kind child.number
pro_child_slot places part child unit i is =
    child_cases (λ kind number below count. i ≡ pro_slot below count) places part.kind part.file part.number i child
    (pro_child-To places part.kind part.file part.number unit i child is) (λ within. omega (arith, within)) (λ within. omega (arith, within))

pub pro_slot_below : (places : ℕ) (part child : Part) (unit : List ℕ) (i : ℕ) → pro_child places part.kind part.file part.number unit i ≡ To child → i < 256
pro_slot_below places part child unit i is =
    child_cases (λ kind number below count. i < 256) places part.kind part.file part.number i child
    (pro_child-To places part.kind part.file part.number unit i child is) (λ within. omega (arith, within)) (λ within. within)

pub pro_one_slot : (places : ℕ) (part other child same : Part) (unit unit' : List ℕ) (i j : ℕ)
    → pro_child places part.kind part.file part.number unit i ≡ To child → pro_child places other.kind other.file other.number unit' j ≡ To same
    → child.kind ≡ same.kind → child.number ≡ same.number → (part.kind ≡ other.kind) × (part.number ≡ other.number) × (i ≡ j)
pro_one_slot places part other child same unit unit' i j is is' kind number =
    by_cases (pro_child-To places part.kind part.file part.number unit i child is) (pro_child-To places other.kind other.file other.number unit' j same is')
  where
    differ : Index ≡ Body → ⊥
    differ e = cc

    by_cases : IsChildOf places part.kind part.file part.number i child → IsChildOf places other.kind other.file other.number j same
        → (part.kind ≡ other.kind) × (part.number ≡ other.number) × (i ≡ j)
    by_cases (inl below) (inl below') = (
      below.0 ∙ sym below'.0,
      omega (arith, below.1.pointer, below'.1.pointer, below.1.same_number, below'.1.same_number, number),
      omega (arith, below.1.pointer, below'.1.pointer, below.1.same_number, below'.1.same_number, number),
    )
    by_cases (inr below) (inr below') = (
      below.0 ∙ sym below'.0,
      omega (arith, below.1.pointer, below'.1.pointer, below.1.same_number, below'.1.same_number, number),
      omega (arith, below.1.pointer, below'.1.pointer, below.1.same_number, below'.1.same_number, number),
    )
    by_cases (inl below) (inr below') = absurd (differ (sym below.1.same_kind ∙ kind ∙ below'.1.same_kind))
    by_cases (inr below) (inl below') = absurd (differ (sym below'.1.same_kind ∙ sym kind ∙ below.1.same_kind))

pub pro_rank_of : (part other : Part) → part.kind ≡ other.kind → part.number ≡ other.number → pro_rank part.kind part.number ≡ pro_rank other.kind other.number
pro_rank_of part other kind number = ap (λ k. pro_rank k part.number) kind ∙ ap (pro_rank other.kind) number

-- a pointer names the same where its block number is the same
link_below-same : (width : ℕ) (kind : PartKind) (places file number : ℕ) (unit new : List ℕ) (i : ℕ) → (i < width → pointer_of new i ≡ pointer_of unit i)
    → link_below width kind places file number new i ≡ link_below width kind places file number unit i
link_below-same width kind places file number unit new i same = by_test (nat_lt i width) refl
  where
    by_test : (below : Bool) → nat_lt i width ≡ below
        → (if below then pro_link places file kind (width * number + i) (pointer_of new i) else Null)
        ≡ (if below then pro_link places file kind (width * number + i) (pointer_of unit i) else Null)
    by_test true is = ap (pro_link places file kind (width * number + i)) (same (grind (arith, nat_tests)))
    by_test false is = refl

pub pro_set_elsewhere : (places : ℕ) (kind : PartKind) (file number : ℕ) (unit : List ℕ) (i j block : ℕ) → j ≢ i
    → pro_child places kind file number (pro_with_pointer unit i block) j ≡ pro_child places kind file number unit j
pro_set_elsewhere places Master file number unit i j block apart =
    link_below-same 128 Index places file number unit (pro_with_pointer unit i block) j (λ within. written-other unit i j block (omega (arith, within)) apart)
pro_set_elsewhere places Index file number unit i j block apart =
    link_below-same 256 Body places file number unit (pro_with_pointer unit i block) j (λ within. written-other unit i j block within apart)
pro_set_elsewhere places AList file number unit i j block apart = refl
pro_set_elsewhere places Body file number unit i j block apart = refl

-- the pointer that was written
module _ (places : ℕ) (file number : ℕ) (unit : List ℕ) (i block : ℕ) (child : Part) (whole : length unit ≡ 512) (named : CanNameBlock places block) where
  pointer-written : i < 256 → pointer_of (pro_with_pointer unit i block) i ≡ block
  pointer-written inside = ap (λ new. pointer_of new i) (pro_with_pointer-is unit i block inside) ∙ pointer-here unit i block whole inside

  link_below-here : (width : ℕ) (kind : PartKind) → width ≤ 256 → i < width → child.file ≡ file → child.kind ≡ kind → child.number ≡ width * number + i
      → link_below width kind places file number (pro_with_pointer unit i block) i ≡ To (at_place child block)
  link_below-here width kind few inside file_is kind_is number_is =
      link_below-cases (λ link. link ≡ To (at_place child block)) width kind places file number (pro_with_pointer unit i block) i
      (λ within. ap (pro_link places file kind (width * number + i)) (pointer-written (omega (arith, few, inside)))
      ∙ link-moved places file kind (width * number + i) block child named file_is kind_is number_is)
      (λ past. absurd (omega (arith, past, inside)))

  pub pro_set_here : (kind : PartKind) → pro_child places kind file number unit i ≡ To child
      → pro_child places kind file number (pro_with_pointer unit i block) i ≡ To (at_place child block)
  pro_set_here kind is =
      ⊎_elim
      (λ below. subst (λ k. pro_child places k file number (pro_with_pointer unit i block) i ≡ To (at_place child block)) (sym below.0)
      (link_below-here 128 Index (omega arith) below.1.pointer below.1.same_file below.1.same_kind below.1.same_number))
      (λ below. subst (λ k. pro_child places k file number (pro_with_pointer unit i block) i ≡ To (at_place child block)) (sym below.0)
      (link_below-here 256 Body (omega arith) below.1.pointer below.1.same_file below.1.same_kind below.1.same_number))
      (pro_child-To places kind file number unit i child is)
