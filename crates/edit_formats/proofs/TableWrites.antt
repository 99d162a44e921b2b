-- The block of an index or a master index, written pointer by pointer.
use Rattle.std.proofs.Common.{◌≡◌, ◌≢◌, ◌<◌, ◌≤◌, ◌+◌, ◌*◌, ℕ, List, length, sym, ◌∙◌, ap, subst, arith, inl, inr, replicate}
use Rattle.std.specs.Prelude.{slice_index}
use Rattle.std.proofs.lemmas.Bool.{cases_eq}
use Rattle.std.proofs.lemmas.List.{get_or-replicate, length-replicate}
use Rattle.a2_device.specs.declared.part.PartKind.{PartKind}
use Rattle.a2_device.specs.declared.part.PartKind.TheVariants.{Master, Index, Body}
use Rattle.pro_tree.specs.Pointers.{pointer_of, with_pointer}
use Rattle.pro_tree.specs.lemmas.PointerLaws.{length-with_pointer, pointer-here, pointer-other}
use Rattle.edit_formats.specs.declared.new_part.NewPart.{NewPart}
use Rattle.edit_formats.specs.Order.{AreProParts, part_at}
use Rattle.edit_formats.specs.Parts.{new_part}
use Rattle.edit_formats.specs.Filling.{Between, HasPointers, IsEnd}
use Rattle.edit_formats.specs.TableUnit.{IsTableUnit}
use Rattle.edit_formats.specs.lemmas.Parts.{index_own}

-- a block of zeros names nothing
pub no_pointers : (parts : List NewPart) (places : List ℕ) (child : PartKind) (first at : ℕ) (unit : List ℕ) → unit ≡ replicate 512 0 → HasPointers parts places child first at (at + 1) unit
no_pointers parts places child first at unit zeros = subst (HasPointers parts places child first at (at + 1)) (sym zeros) (record {
  size = length-replicate {A = ℕ} 512 0;
  pointers = λ i below. inr (λ k between. omega (arith, between.0, between.1), omega (arith, zero i (omega (arith, below)), zero (256 + i) (omega (arith, below))));
})
  where
    zero : (byte : ℕ) → byte < 512 → slice_index (replicate 512 0) byte ≡ 0
    zero byte inside = get_or-replicate 512 byte 0 0 inside

module _ (parts : List NewPart) (places : List ℕ) (child : PartKind) (first at upto : ℕ) (unit : List ℕ) (has : HasPointers parts places child first at upto unit) where
  -- a part that is not named here
  pub pointer_passed : ((part_at parts upto).kind ≡ child → ⊥) → HasPointers parts places child first at (upto + 1) unit
  pointer_passed other = record {
    size = has.size;
    pointers = λ i below. elim (has.pointers i below) [
      | inl found ↦ inl (found.0, (found.1.0, omega (arith, found.1.1), found.1.2), found.2)
      | inr none ↦ inr (λ k between. not_named i k none.0 between, none.1)
    ];
  }
    where
      not_named : (i k : ℕ) → ((k : ℕ) → Between parts at upto (new_part child (first + i)) k → ⊥) → Between parts at (upto + 1) (new_part child (first + i)) k → ⊥
      not_named i k none between = elim (cases_eq k upto) [
        | inl last ↦ other (ap (λ n. (part_at parts n).kind) (sym last) ∙ ap (λ (part : NewPart). part.kind) between.2)
        | inr before ↦ none k (between.0, omega (arith, between.1, before), between.2)
      ]

  -- the pointer of the next part is written
  module _ (slot : ℕ) (below_all : slot < 256) (low : at < upto) (named : part_at parts upto ≡ new_part child (first + slot)) where
    abbrev new : List ℕ
    new = with_pointer slot (slice_index places upto) unit

    stays : (i place : ℕ) → i < 256 → i ≢ slot → pointer_of unit i ≡ place → pointer_of new i ≡ place
    stays i place below apart is = pointer-other unit slot i (slice_index places upto) below_all below apart ∙ is

    not_here : (i k : ℕ) → i ≢ slot → ((k : ℕ) → Between parts at upto (new_part child (first + i)) k → ⊥) → Between parts at (upto + 1) (new_part child (first + i)) k → ⊥
    not_here i k apart none between = elim (cases_eq k upto) [
      | inl last ↦
          let same = sym (ap (λ (part : NewPart). part.number) named) ∙ ap (λ n. (part_at parts n).number) (sym last) ∙ ap (λ (part : NewPart). part.number) between.2 in
          absurd (apart (omega (arith, same)))
      | inr before ↦ none k (between.0, omega (arith, between.1, before), between.2)
    ]

    pub pointer_more : HasPointers parts places child first at (upto + 1) new
    pointer_more = record {
      size = length-with_pointer slot (slice_index places upto) unit ∙ has.size;
      pointers = λ i below. elim (cases_eq i slot) [
        | inl same ↦
            inl (
              upto,
              (low, omega arith, subst (λ n. part_at parts upto ≡ new_part child (first + n)) (sym same) named),
              subst (λ n. pointer_of new n ≡ slice_index places upto) (sym same) (pointer-here unit slot (slice_index places upto) has.size below_all),
            )
        | inr apart ↦ elim (has.pointers i below) [
          | inl found ↦ inl (found.0, (found.1.0, omega (arith, found.1.1), found.1.2), stays i (slice_index places found.0) below apart found.2)
          | inr none ↦ inr (λ k between. not_here i k apart none.0 between, stays i 0 below apart none.1)
        ]
      ];
    }

-- where all parts that it can name were between these, the block is whole
pub table_unit : (parts : List NewPart) (places : List ℕ) (child : PartKind) (first at end : ℕ) (unit : List ℕ) → end ≤ length parts
    → ((i k : ℕ) → i < 256 → k < length parts → part_at parts k ≡ new_part child (first + i) → (at < k) × (k < end))
    → HasPointers parts places child first at end unit → IsTableUnit parts places child first unit
table_unit parts places child first at end unit within own has = record {
  size = has.size;
  pointers = λ i below. elim (has.pointers i below) [
    | inl found ↦ inl (found.0, omega (arith, found.1.1, within), found.1.2, found.2)
    | inr none ↦ inr (λ k inside same. let between = own i k below inside same in none.0 k (between.0, between.1, same), none.1)
  ];
}

-- the block of an index that has its pointers to the units behind it
pub index_unit : (storage : ℕ) (parts : List NewPart) (places : List ℕ) (at end : ℕ) (unit : List ℕ) → AreProParts storage parts → at < length parts → (part_at parts at).kind ≡ Index
    → IsEnd parts at end → HasPointers parts places Body (256 * (part_at parts at).number) at end unit → IsTableUnit parts places Body (256 * (part_at parts at).number) unit
index_unit storage parts places at end unit are inside is ends has =
    table_unit parts places Body (256 * (part_at parts at).number) at end unit ends.within
    (λ i k below within same.
    let numbered = ap (λ (part : NewPart). part.number) same in
    index_own storage parts are at inside is end ends k within (ap (λ (part : NewPart). part.kind) same) (omega (arith, numbered, below)))
    has

-- the block of a master index that has its pointers to all indexes
pub master_unit : (parts : List NewPart) (places : List ℕ) (unit : List ℕ) → (part_at parts 0).kind ≡ Master → HasPointers parts places Index 0 0 (length parts) unit
    → IsTableUnit parts places Index 0 unit
master_unit parts places unit is has = table_unit parts places Index 0 0 (length parts) unit (omega arith) (λ i k below within same. (behind k (ap (λ (part : NewPart). part.kind) same), within)) has
  where
    behind : (k : ℕ) → (part_at parts k).kind ≡ Index → 0 < k
    behind k index = elim (cases_eq k 0) [
      | inl zeroth ↦ absurd (let both : Master ≡ Index = sym is ∙ ap (λ n. (part_at parts n).kind) (sym zeroth) ∙ index in cc)
      | inr later ↦ omega (arith, later)
    ]
