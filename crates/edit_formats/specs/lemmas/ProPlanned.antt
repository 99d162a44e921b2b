-- The parts of a ProDOS file at their places are a plan.
use Rattle.std.proofs.Common.{◌≡◌, ◌<◌, ◌+◌, ◌*◌, ◌%◌, ℕ, List, length, refl, sym, ◌∙◌, ap, subst, arith, inl, inr}
use Rattle.std.specs.Prelude.{◌⊎◌, slice_index}
use Rattle.a2_device.specs.declared.part.Part.{Part}
use Rattle.a2_device.specs.declared.part.PartKind.{PartKind}
use Rattle.a2_device.specs.declared.part.PartKind.TheVariants.{Master, Index, Body}
use Rattle.vol_format.specs.declared.link.Link.TheVariants.{To}
use Rattle.pro_tree.specs.Content.{CanNameBlock}
use Rattle.pro_tree.specs.Pointers.{pointer_of}
use Rattle.pro_tree.specs.Reach.{pro_root}
use Rattle.vol_laws.specs.Built.{Planned, part_of, place_of, unit_of}
use Rattle.vol_laws.specs.Inserted.{in_file}
use Rattle.pro_format.specs.Plan.{IsProPlan, IsStorageOf, IsTable}
use Rattle.pro_format.proofs.BuiltPlans.{first_root}
use Rattle.edit_formats.specs.declared.new_part.NewPart.{NewPart}
use Rattle.edit_formats.specs.Order.{AreProParts, IsOfIndex, part_at}
use Rattle.edit_formats.specs.Parts.{new_part}
use Rattle.edit_formats.specs.Placed.{HavePlaces, HasPlaced}
use Rattle.edit_formats.specs.TableUnit.{HasTableUnits, PointsTo}
use Rattle.edit_formats.specs.lemmas.Parts.{can_name, master_first, part_is, place_once, plan_kind, plan_number, plan_place, same_part}

module _ (count file storage : ℕ) (parts : List NewPart) (places : List ℕ) (planned : List Planned) (are : AreProParts storage parts)
    (have : HavePlaces (CanNameBlock count) parts places) (has : HasPlaced file parts places planned) (units : HasTableUnits parts places planned) where
  inside : (k : ℕ) → k < length planned → k < length parts
  inside k within = omega (arith, within, has.size)

  -- a pointer of a table, and what it names
  points : (k width i : ℕ) (child : PartKind) → k < length parts → IsTable (part_at parts k).kind width child → i < width
      → PointsTo parts places (new_part child (width * (part_at parts k).number + i)) (unit_of planned k) i
  points k width i child within (inl (master, wide, of)) below =
      let low : i < 128 = subst (λ w. i < w) wide below in
      let zeroth = (master_first storage parts are k within master).1 in
      let number : 0 + i ≡ 128 * (part_at parts k).number + i = omega (arith, zeroth) in
      subst (λ kind. PointsTo parts places (new_part kind (width * (part_at parts k).number + i)) (unit_of planned k) i) (sym of)
      (subst (λ w. PointsTo parts places (new_part Index (w * (part_at parts k).number + i)) (unit_of planned k) i) (sym wide)
      (subst (λ n. PointsTo parts places (new_part Index n) (unit_of planned k) i) number ((units.master k within master).pointers i (omega (arith, low)))))
  points k width i child within (inr (index, wide, of)) below =
      let low : i < 256 = subst (λ w. i < w) wide below in
      subst (λ kind. PointsTo parts places (new_part kind (width * (part_at parts k).number + i)) (unit_of planned k) i) (sym of)
      (subst (λ w. PointsTo parts places (new_part Body (w * (part_at parts k).number + i)) (unit_of planned k) i) (sym wide) ((units.indexes k within index).pointers i low))

  table_of : (k width : ℕ) (child : PartKind) → k < length parts → IsTable (part_of planned k).kind width child → IsTable (part_at parts k).kind width child
  table_of k width child within is = subst (λ kind. IsTable kind width child) (plan_kind file parts places planned has k within) is

  pointers : (k width i : ℕ) (child : PartKind) → k < length planned → IsTable (part_of planned k).kind width child → i < width
      → (pointer_of (unit_of planned k) i ≡ 0)
      ⊎ ((m : ℕ) × (m < length planned) × ((part_of planned m).kind ≡ child) × ((part_of planned m).number ≡ width * (part_of planned k).number + i)
      × (pointer_of (unit_of planned k) i ≡ place_of planned m))
  pointers k width i child within is below =
      let k_in = inside k within in
      elim (points k width i child k_in (table_of k width child k_in is) below) [
        | inl found ↦ inr (
          found.0,
          omega (arith, found.1, has.size),
          plan_kind file parts places planned has found.0 found.1 ∙ ap (λ (part : NewPart). part.kind) found.2,
          plan_number file parts places planned has found.0 found.1 ∙ ap (λ (part : NewPart). part.number) found.2
              ∙ ap (λ n. width * n + i) (sym (plan_number file parts places planned has k k_in)),
          found.3 ∙ sym (plan_place file parts places planned has found.0 found.1),
        )
        | inr none ↦ inl none.1
      ]

  -- the pointer of a table to a part
  named : (j k width i : ℕ) (child : PartKind) → j < length parts → k < length parts → IsTable (part_at parts j).kind width child → i < width
      → part_at parts k ≡ new_part child (width * (part_at parts j).number + i) → pointer_of (unit_of planned j) i ≡ slice_index places k
  named j k width i child j_in k_in is below same = elim (points j width i child j_in is below) [
    | inl found ↦
        let here : found.0 ≡ k = same_part IsOfIndex parts are.ordered found.0 k found.1 k_in (found.2 ∙ sym same) in
        found.3 ∙ ap (slice_index places) here
    | inr none ↦ absurd (none.0 k k_in same)
  ]

  abbrev IsAbove : ℕ → Type 0
  IsAbove k = (j width i : ℕ) × (j < k) × IsTable (part_of planned j).kind width (part_of planned k).kind × (i < width)
      × ((part_of planned k).number ≡ width * (part_of planned j).number + i) × (pointer_of (unit_of planned j) i ≡ place_of planned k)

  above_by : (j k width i : ℕ) → j < k → k < length parts → IsTable (part_at parts j).kind width (part_at parts k).kind → i < width
      → (part_at parts k).number ≡ width * (part_at parts j).number + i → IsAbove k
  above_by j k width i before k_in is below number =
      let j_in : j < length parts = omega (arith, before, k_in) in
      let kind_j = plan_kind file parts places planned has j j_in in
      let kind_k = plan_kind file parts places planned has k k_in in (
        j,
        width,
        i,
        before,
        subst (λ kind. IsTable kind width (part_of planned k).kind) (sym kind_j) (subst (IsTable (part_at parts j).kind width) (sym kind_k) is),
        below,
        plan_number file parts places planned has k k_in ∙ number ∙ ap (λ n. width * n + i) (sym (plan_number file parts places planned has j j_in)),
        named j k width i (part_at parts k).kind j_in k_in is below (part_is (part_at parts k) (part_at parts k).kind (width * (part_at parts j).number + i) refl number)
            ∙ sym (plan_place file parts places planned has k k_in),
      )

  above : (k : ℕ) → 0 < k → k < length planned → IsAbove k
  above k later within =
      let k_in = inside k within in
      let up = are.ordered.above k later k_in in
      elim up.2 [
        | inl master ↦ above_by up.0 k 128 ((part_at parts k).number % 128) up.1 k_in (inl (master.0, refl, master.1)) (omega arith) (omega (arith, master.2))
        | inr index ↦ above_by up.0 k 256 ((part_at parts k).number % 256) up.1 k_in (inr (index.0, refl, index.1)) (omega arith) (omega (arith, index.2))
      ]

  pub pro_file_planned : IsProPlan count file planned
  pro_file_planned = record {
    some = omega (arith, are.ordered.some, has.size);
    in_file = λ k within. ap (λ (part : Part). part.file) (has.each k (inside k within));
    named = λ k within. subst (CanNameBlock count) (sym (plan_place file parts places planned has k (inside k within))) (can_name (CanNameBlock count) parts places have k (inside k within));
    once = λ j k less within same.
        let k_in = inside k within in
        let j_in : j < length parts = omega (arith, less, k_in) in
        place_once (CanNameBlock count) parts places have j k less k_in (sym (plan_place file parts places planned has j j_in) ∙ same ∙ plan_place file parts places planned has k k_in);
    kinds = λ k within. subst (λ kind. (kind ≡ Body) ⊎ (kind ≡ Index) ⊎ (kind ≡ Master)) (sym (plan_kind file parts places planned has k (inside k within))) (are.kinds k (inside k within));
    pointers = pointers;
    above = above;
  }

  first_storage : (IsStorageOf storage (part_of planned 0).kind) × ((part_of planned 0).number ≡ 0)
  first_storage = elim are.first [
    | inl seedling ↦ of_kind Body seedling.1 (λ is. inl (seedling.0, is))
    | inr others ↦ elim others [
      | inl sapling ↦ of_kind Index sapling.1 (λ is. inr (inl (sapling.0, is)))
      | inr tree ↦ of_kind Master tree.1 (λ is. inr (inr (tree.0, is)))
    ]
  ]
    where
      of_kind : (kind : PartKind) → part_at parts 0 ≡ new_part kind 0 → ((part_of planned 0).kind ≡ kind → IsStorageOf storage (part_of planned 0).kind)
          → (IsStorageOf storage (part_of planned 0).kind) × ((part_of planned 0).number ≡ 0)
      of_kind kind first storage_is = (
        storage_is (plan_kind file parts places planned has 0 are.ordered.some ∙ ap (λ (part : NewPart). part.kind) first),
        plan_number file parts places planned has 0 are.ordered.some ∙ ap (λ (part : NewPart). part.number) first,
      )

  -- the key pointer that names the first part
  pub pro_root_first : pro_root count file storage (place_of planned 0) ≡ To (part_of planned 0)
  pro_root_first =
      let plan = pro_file_planned in
      first_root count file storage (part_of planned 0) (plan.named 0 plan.some) first_storage.0 first_storage.1
      ∙ ap (λ f. To (in_file (part_of planned 0) f)) (sym (plan.in_file 0 plan.some))
