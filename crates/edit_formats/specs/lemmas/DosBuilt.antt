-- The parts of a DOS 3.3 file at their places are built.
use Rattle.std.proofs.Common.{◌≡◌, ◌<◌, ◌+◌, ◌*◌, ◌%◌, ℕ, Bool, List, length, sym, ◌∙◌, ap, subst, arith, inl, inr}
use Rattle.std.specs.Prelude.{◌⊎◌, slice_index}
use Rattle.std.proofs.lemmas.Bool.{cases_eq, cases_lt}
use Rattle.a2_device.specs.declared.part.Part.{Part}
use Rattle.a2_device.specs.declared.part.PartKind.TheVariants.{List as AList, Body}
use Rattle.dos_catalog.specs.declared.slot.NewEntry.{NewEntry}
use Rattle.dos_tslist.specs.Pointers.{pair_offset, pointer_of}
use Rattle.vol_format.specs.declared.link.Link.{Link}
use Rattle.vol_format.specs.declared.link.Link.TheVariants.{Null, To}
use Rattle.dos_format.specs.Dos.{CanNameDos, dos_child, dos_meaning, dos_pointers, link_to, list_link}
use Rattle.vol_laws.specs.Built.{IsBuilt, Planned, built_link, part_of, place_of, unit_of}
use Rattle.dos_format.specs.Plan.{NamesAt}
use Rattle.dos_format.specs.Slots.{new_listed}
use Rattle.dos_format.proofs.Building.{named_at, next_link, null_at, pair_link}
use Rattle.edit_formats.specs.declared.new_part.NewPart.{NewPart}
use Rattle.edit_formats.specs.Order.{AreDosParts, part_at}
use Rattle.edit_formats.specs.Parts.{new_part}
use Rattle.edit_formats.specs.ListUnit.{HasListUnits, NamesPart}
use Rattle.edit_formats.specs.Placed.{HavePlaces, HasPlaced}
use Rattle.edit_formats.specs.lemmas.Parts.{can_name, part_is, place_once, plan_place, same_part}
use Rattle.edit_formats.specs.Order.{IsOfList}

module _ (data_disk : Bool) (reserved : List Bool) (count file : ℕ) (parts : List NewPart) (places : List ℕ) (planned : List Planned)
    (are : AreDosParts parts) (have : HavePlaces CanNameDos parts places) (has : HasPlaced file parts places planned) (units : HasListUnits parts places planned) where
  inside : (k : ℕ) → k < length planned → k < length parts
  inside k within = omega (arith, within, has.size)

  inside_plan : (k : ℕ) → k < length parts → k < length planned
  inside_plan k within = omega (arith, within, has.size)

  abbrev link : ℕ → ℕ → Link
  link k i = built_link (dos_meaning data_disk reserved) count planned k i

  link_is : (k i : ℕ) → k < length parts → link k i ≡ dos_child (part_at parts k).kind file (part_at parts k).number (unit_of planned k) i
  link_is k i within = ap (λ (part : Part). dos_child part.kind part.file part.number (unit_of planned k) i) (has.each k within)

  link_of_list : (k i : ℕ) → k < length parts → (part_at parts k).kind ≡ AList → link k i ≡ list_link file (part_at parts k).number (unit_of planned k) i
  link_of_list k i within is = link_is k i within ∙ ap (λ kind. dos_child kind file (part_at parts k).number (unit_of planned k) i) is

  -- what is named at a byte of a unit
  to_part : (m : ℕ) (part : NewPart) (unit : List ℕ) (at : ℕ) → m < length parts → part_at parts m ≡ part → NamesAt unit at (slice_index places m)
      → link_to file part.kind part.number (pointer_of unit at) ≡ To (part_of planned m)
  to_part m part unit at within same names =
      named_at file part.kind part.number unit at (slice_index places m) names (can_name CanNameDos parts places have m within)
      ∙ ap (λ (p : NewPart). To (record { file = file; kind = p.kind; number = p.number; place = slice_index places m })) (sym same)
      ∙ ap To (sym (has.each m within))

  abbrev IsOfPlan : Link → Type 0
  IsOfPlan named = (named ≡ Null) ⊎ ((m : ℕ) × (m < length planned) × (named ≡ To (part_of planned m)))

  named_part : (part : NewPart) (unit : List ℕ) (at : ℕ) → NamesPart parts places part unit at → IsOfPlan (link_to file part.kind part.number (pointer_of unit at))
  named_part part unit at (inl found) = inr (found.0, inside_plan found.0 found.1, to_part found.0 part unit at found.1 found.2 found.3)
  named_part part unit at (inr none) = inl (null_at file part.kind part.number unit at none.1.0)

  closed_list : (k i : ℕ) → k < length parts → (part_at parts k).kind ≡ AList → i < 123 → IsOfPlan (link k i)
  closed_list k i within is few = subst IsOfPlan (sym (link_of_list k i within is)) (elim (cases_lt i 122) [
    | inl pair ↦
        subst IsOfPlan (sym (pair_link file (part_at parts k).number (unit_of planned k) i pair))
        (named_part (new_part Body (122 * (part_at parts k).number + i)) (unit_of planned k) (pair_offset i) ((units k within is).pairs i pair))
    | inr last ↦
        let at : 122 ≡ i = omega (arith, few, last) in
        subst (λ n. IsOfPlan (list_link file (part_at parts k).number (unit_of planned k) n)) at
        (subst IsOfPlan (sym (next_link file (part_at parts k).number (unit_of planned k)))
        (named_part (new_part AList ((part_at parts k).number + 1)) (unit_of planned k) 1 (units k within is).link))
  ])

  none_below : (i : ℕ) → i < 0 → ⊥
  none_below i low = omega (arith, low)

  closed : (k i : ℕ) → k < length planned → i < dos_pointers (part_of planned k).kind → IsOfPlan (link k i)
  closed k i within few =
      let here = inside k within in
      let pointers : i < dos_pointers (part_at parts k).kind = subst (λ (part : Part). i < dos_pointers part.kind) (has.each k here) few in
      elim (are.kinds k here) [
        | inl list ↦ closed_list k i here list.0 (subst (λ kind. i < dos_pointers kind) list.0 pointers)
        | inr body ↦ absurd (none_below i (subst (λ kind. i < dos_pointers kind) body pointers))
      ]

  -- the part that is named is this one
  leads_to : (k : ℕ) (part : NewPart) (unit : List ℕ) (at : ℕ) → k < length parts → part_at parts k ≡ part → NamesPart parts places part unit at
      → link_to file part.kind part.number (pointer_of unit at) ≡ To (part_of planned k)
  leads_to k part unit at within same (inl found) =
      let here : found.0 ≡ k = same_part IsOfList parts are.ordered found.0 k found.1 within (found.2 ∙ sym same) in
      subst (λ n. link_to file part.kind part.number (pointer_of unit at) ≡ To (part_of planned n)) here (to_part found.0 part unit at found.1 found.2 found.3)
  leads_to k part unit at within same (inr none) = absurd (none.0 k within same)

  led_by : (k : ℕ) → k < length parts → 0 < k → (j i : ℕ) × (j < k) × (link j i ≡ To (part_of planned k))
  led_by k within later =
      let up = are.ordered.above k later within in
      let j_in : up.0 < length parts = omega (arith, up.1, within) in
      let list = up.2.0 in
      let unit = unit_of planned up.0 in
      elim up.2.1 [
        | inl body ↦
            let i = (part_at parts k).number % 122 in
            let pair : i < 122 = omega arith in
            let same = part_is (part_at parts k) Body (122 * (part_at parts up.0).number + i) body.0 (omega (arith, body.1)) in (
              up.0,
              i,
              up.1,
              link_of_list up.0 i j_in list ∙ pair_link file (part_at parts up.0).number unit i pair
                  ∙ leads_to k (new_part Body (122 * (part_at parts up.0).number + i)) unit (pair_offset i) within same ((units up.0 j_in list).pairs i pair),
            )
        | inr next ↦
            let same = part_is (part_at parts k) AList ((part_at parts up.0).number + 1) next.0 next.1 in (
              up.0,
              122,
              up.1,
              link_of_list up.0 122 j_in list ∙ next_link file (part_at parts up.0).number unit
                  ∙ leads_to k (new_part AList ((part_at parts up.0).number + 1)) unit 1 within same (units up.0 j_in list).link,
            )
      ]

  pub dos_file_built : (root : Link) → root ≡ To (part_of planned 0) → IsBuilt (dos_meaning data_disk reserved) count planned root
  dos_file_built root first = record {
    once = λ j k less within same.
        let k_in = inside k within in
        let j_in : j < length parts = omega (arith, less, k_in) in
        place_once CanNameDos parts places have j k less k_in (sym (plan_place file parts places planned has j j_in) ∙ same ∙ plan_place file parts places planned has k k_in);
    entry = inr (0, inside_plan 0 are.ordered.some, first);
    closed = closed;
    led = λ k within. elim (cases_eq k 0) [
      | inl zeroth ↦ inl (first ∙ ap (λ n. To (part_of planned n)) (sym zeroth))
      | inr later ↦ inr (led_by k (inside k within) (omega (arith, later)))
    ];
  }

  -- the entry that points to the place of the first list
  pub entry_first : (place slot : ℕ) (new : NewEntry) → new.pointer ≡ place_of planned 0 → (new_listed file place slot new).root ≡ To (part_of planned 0)
  entry_first place slot new pointer =
      ap (λ p. To (record { file = file; kind = AList; number = 0; place = p })) (pointer ∙ plan_place file parts places planned has 0 are.ordered.some)
      ∙ ap (λ (part : NewPart). To (record { file = file; kind = part.kind; number = part.number; place = slice_index places 0 })) (sym are.first)
      ∙ ap To (sym (has.each 0 are.ordered.some))
