-- An index or a master index, written pointer by pointer.
use Rattle.std.specs.Prelude.{◌≡◌, ◌≢◌, ◌⊎◌, ◌<◌, ◌≤◌, ℕ, ◌+◌, ◌*◌, ◌/◌, ◌%◌, List, length, replicate, slice_index}
use Rattle.std.proofs.Common.{refl, sym, ◌∙◌, ap, subst, arith, inl, inr}
use Rattle.std.proofs.lemmas.Bool.{cases_eq}
use Rattle.std.proofs.lemmas.List.{get_or-map, get_or-replicate, length-map}
use Rattle.a2_device.specs.declared.part.Part.{Part}
use Rattle.a2_device.specs.declared.part.PartKind.{PartKind}
use Rattle.a2_device.specs.declared.part.PartKind.TheVariants.{Master, Index, Body}
use Rattle.pro_tree.specs.Content.{CanNameBlock}
use Rattle.pro_tree.specs.Pointers.{pointer_of, with_pointer}
use Rattle.pro_tree.specs.lemmas.PointerLaws.{pointer-here, pointer-other}
use Rattle.vol_laws.specs.Built.{Planned, part_of, no_plan, unit_of}
use Rattle.vol_format.specs.Standing.{no_part}
use Rattle.pro_format.specs.Plan.{ArePlannedParts, ArePointed, HasPointers, IsBelow, IsProPlan, IsTable, part_at, parts_of}

table_width : (kind child : PartKind) (width : ℕ) → IsTable kind width child → (0 < width) × (width ≤ 256)
table_width kind child width (inl master) = (omega (arith, master.1), omega (arith, master.1))
table_width kind child width (inr index) = (omega (arith, index.1), omega (arith, index.1))

-- a number by its table's number and the pointer that names it
split_number : (number width table : ℕ) (kind child : PartKind) → IsTable kind width child → number / width ≡ table → number ≡ width * table + number % width
split_number number width table kind child (inl master) of =
    let here : number / 128 ≡ table = subst (λ w. number / w ≡ table) master.1 of in
    subst (λ w. number ≡ w * table + number % w) (sym master.1) (omega (arith, here))
split_number number width table kind child (inr index) of =
    let here : number / 256 ≡ table = subst (λ w. number / w ≡ table) index.1 of in
    subst (λ w. number ≡ w * table + number % w) (sym index.1) (omega (arith, here))

rest_below : (number width : ℕ) (kind child : PartKind) → IsTable kind width child → number % width < width
rest_below number width kind child (inl master) = subst (λ w. number % w < w) (sym master.1) (omega arith)
rest_below number width kind child (inr index) = subst (λ w. number % w < w) (sym index.1) (omega arith)

-- a block of zeros names nothing
pub zeros_point : (table : Part) (width : ℕ) (child : PartKind) (parts : List Part) → IsTable table.kind width child → HasPointers table width child parts 0 (replicate 512 0)
zeros_point table width child parts is = record {
  pointers = λ i below.
      let small = (table_width table.kind child width is).1 in
      inl (omega (arith, zero i (omega (arith, below, small)), zero (256 + i) (omega (arith, below, small))));
  each = λ m none of. absurd (omega (arith, none));
}
  where
    zero : (i : ℕ) → i < 512 → slice_index (replicate 512 0) i ≡ 0
    zero i inside = get_or-replicate 512 i 0 0 inside

module _ (table : Part) (width : ℕ) (child : PartKind) (parts : List Part) (upto : ℕ) (unit : List ℕ) (is : IsTable table.kind width child) (has : HasPointers table width child parts upto unit) where
  abbrev part : Part
  part = part_at parts upto

  -- a part that another block names
  pub pointer_skipped : (IsBelow table width child part → ⊥) → HasPointers table width child parts (upto + 1) unit
  pointer_skipped other = record {
    pointers = λ i below. elim (has.pointers i below) [
      | inl none ↦ inl none
      | inr found ↦ inr (found.0, omega (arith, found.1), found.2, found.3, found.4)
    ];
    each = λ m low of. elim (cases_eq m upto) [
      | inl same ↦ absurd (other (subst (λ k. IsBelow table width child (part_at parts k)) same of))
      | inr before ↦ has.each m (omega (arith, low, before)) of
    ];
  }

  -- a part that this block names: its pointer is written
  module _ (whole : length unit ≡ 512) (of : IsBelow table width child part) (once : (m : ℕ) → m < upto → (part_at parts m).kind ≡ child → (part_at parts m).number ≢ part.number) where
    abbrev slot : ℕ
    slot = part.number % width

    abbrev new : List ℕ
    new = with_pointer slot part.place unit

    slot_below : slot < width
    slot_below = rest_below part.number width table.kind child is

    small : width ≤ 256
    small = (table_width table.kind child width is).1

    here : pointer_of new slot ≡ part.place
    here = pointer-here unit slot part.place whole (omega (arith, slot_below, small))

    stays : (i : ℕ) → i < width → i ≢ slot → pointer_of new i ≡ pointer_of unit i
    stays i below apart = pointer-other unit slot i part.place (omega (arith, slot_below, small)) (omega (arith, below, small)) apart

    pub pointer_written : HasPointers table width child parts (upto + 1) new
    pointer_written = record {
      pointers = λ i below. elim (cases_eq i slot) [
        | inl same ↦
            inr (
              upto,
              omega arith,
              of.0,
              split_number part.number width table.number table.kind child is of.1 ∙ ap (λ n. width * table.number + n) (sym same),
              subst (λ p. pointer_of new p ≡ part.place) (sym same) here,
            )
        | inr apart ↦ elim (has.pointers i below) [
          | inl none ↦ inl (stays i below apart ∙ none)
          | inr found ↦ inr (found.0, omega (arith, found.1), found.2, found.3, stays i below apart ∙ found.4)
        ]
      ];
      each = λ m low of_m. elim (cases_eq m upto) [
        | inl same ↦ subst (λ k. pointer_of new ((part_at parts k).number % width) ≡ (part_at parts k).place) (sym same) here
        | inr before ↦
            let earlier : m < upto = omega (arith, low, before) in
            let number_m = split_number (part_at parts m).number width table.number table.kind child is of_m.1 in
            let number = split_number part.number width table.number table.kind child is of.1 in
            let apart : (part_at parts m).number % width ≢ slot = λ e. once m earlier of_m.0 (number_m ∙ ap (λ n. width * table.number + n) e ∙ sym number) in
            stays ((part_at parts m).number % width) (rest_below (part_at parts m).number width table.kind child is) apart ∙ has.each m earlier of_m
      ];
    }

-- the parts of a plan, each index with its pointers, are a plan
module _ (places file : ℕ) (planned : List Planned) (shape : ArePlannedParts places file (parts_of planned)) (pointed : ArePointed (parts_of planned) planned) where
  abbrev parts : List Part
  parts = parts_of planned

  size : length parts ≡ length planned
  size = length-map planned (λ (plan : Planned). plan.part)

  same : (k : ℕ) → k < length planned → part_at parts k ≡ part_of planned k
  same k within = get_or-map (λ (plan : Planned). plan.part) planned k no_plan no_part within

  inside : (k : ℕ) → k < length planned → k < length parts
  inside k within = omega (arith, within, size)

  pub plan_pointed : IsProPlan places file planned
  plan_pointed = record {
    some = omega (arith, shape.some, size);
    in_file = λ k within. ap (λ (p : Part). p.file) (sym (same k within)) ∙ shape.in_file k (inside k within);
    named = λ k within. subst (λ (p : Part). CanNameBlock places p.place) (same k within) (shape.named k (inside k within));
    once = λ j k less within e. shape.once j k less (inside k within)
        (ap (λ (p : Part). p.place) (same j (omega (arith, less, within))) ∙ e ∙ sym (ap (λ (p : Part). p.place) (same k within)));
    kinds = λ k within. subst (λ (p : Part). (p.kind ≡ Body) ⊎ (p.kind ≡ Index) ⊎ (p.kind ≡ Master)) (same k within) (shape.kinds k (inside k within));
    pointers = λ k width i child within is below. elim ((pointed k width child within is).pointers i below) [
      | inl none ↦ inl none
      | inr found ↦
          let m : found.0 < length planned = omega (arith, found.1, size) in
          let at = same found.0 m in
          inr (found.0, m, ap (λ (p : Part). p.kind) (sym at) ∙ found.2, ap (λ (p : Part). p.number) (sym at) ∙ found.3, found.4 ∙ ap (λ (p : Part). p.place) at)
    ];
    above = λ k some within.
        let over = shape.above k some (inside k within) in
        let j : over.0 < length planned = omega (arith, over.2, within) in
        let at = same over.0 j in
        let here = same k within in
        let is : IsTable (part_of planned over.0).kind over.1 (part_of planned k).kind =
        subst (λ (p : Part). IsTable (part_of planned over.0).kind over.1 p.kind) here (subst (λ (p : Part). IsTable p.kind over.1 (part_at parts k).kind) at over.3) in
        let of : (part_of planned k).number / over.1 ≡ (part_of planned over.0).number =
        ap (λ (p : Part). p.number / over.1) (sym here) ∙ over.4 ∙ ap (λ (p : Part). p.number) at in
        let below : IsBelow (part_of planned over.0) over.1 (part_of planned k).kind (part_at parts k) =
        subst (λ (p : Part). IsBelow (part_of planned over.0) over.1 (part_of planned k).kind p) (sym here) (refl, of) in
        let names = (pointed over.0 over.1 (part_of planned k).kind j is).each k (inside k within) below in (
          over.0,
          over.1,
          (part_of planned k).number % over.1,
          over.2,
          is,
          rest_below (part_of planned k).number over.1 (part_of planned over.0).kind (part_of planned k).kind is,
          split_number (part_of planned k).number over.1 (part_of planned over.0).number (part_of planned over.0).kind (part_of planned k).kind is of,
          ap (λ (p : Part). pointer_of (unit_of planned over.0) (p.number % over.1)) (sym here) ∙ names ∙ ap (λ (p : Part). p.place) here,
        );
  }
