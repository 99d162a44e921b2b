-- A plan of a ProDOS file is built.
use Rattle.std.specs.Prelude.{◌≡◌, ◌⊎◌, ◌<◌, ℕ, zero, suc, ◌+◌, ◌*◌, ◌==◌, nat_lt, if◌then◌else◌, Bool, true, false, List, length}
use Rattle.std.proofs.Common.{refl, sym, ◌∙◌, ap, subst, arith, inl, inr}
use Rattle.std.proofs.lemmas.Bool.Decides.{nat_tests}
use Rattle.a2_device.specs.declared.part.Part.{Part}
use Rattle.a2_device.specs.declared.part.PartKind.{PartKind}
use Rattle.a2_device.specs.declared.part.PartKind.TheVariants.{Master, Index, Body}
use Rattle.pro_format.specs.Pro.{pro_meaning}
use Rattle.pro_tree.specs.Content.{CanNameBlock}
use Rattle.pro_tree.specs.Pointers.{pointer_of}
use Rattle.pro_tree.specs.Reach.{pro_link, pro_root, pro_child, pro_pointers, link_below}
use Rattle.vol_format.specs.declared.link.Link.{Link}
use Rattle.vol_format.specs.declared.link.Link.TheVariants.{Null, Wild, To}
use Rattle.vol_laws.specs.Built.{Planned, part_of, place_of, unit_of, built_link, IsBuilt}
use Rattle.vol_laws.specs.Inserted.{in_file}
use Rattle.pro_format.specs.Plan.{seedling_plan, IsTable, IsProPlan, IsStorageOf}

part_eta : (part : Part) (file : ℕ) (kind : PartKind) (number : ℕ) → part.file ≡ file → part.kind ≡ kind → part.number ≡ number
    → record { file = file; kind = kind; number = number; place = part.place } ≡ part
part_eta part file kind number of_file of_kind numbered =
    ap (λ f. record { file = f; kind = kind; number = number; place = part.place }) (sym of_file)
    ∙ ap (λ k. record { file = part.file; kind = k; number = number; place = part.place }) (sym of_kind)
    ∙ ap (λ n. record { file = part.file; kind = part.kind; number = n; place = part.place }) (sym numbered)

block_link : (places file : ℕ) (kind : PartKind) (number block : ℕ) → CanNameBlock places block
    → pro_link places file kind number block ≡ To (record { file = file; kind = kind; number = number; place = block })
block_link places file kind number block named =
    let some : (block == 0) ≡ false = grind (arith, nat_tests, named.0) in
    let inside : nat_lt block places ≡ true = grind (arith, nat_tests, named.1) in
    ap (λ b. if b then Null else (if nat_lt block places then To (record { file = file; kind = kind; number = number; place = block }) else Wild)) some
    ∙ ap (λ b. if b then To (record { file = file; kind = kind; number = number; place = block }) else Wild) inside

table_link : (width : ℕ) (kind : PartKind) (places file number : ℕ) (unit : List ℕ) (i : ℕ) → i < width
    → link_below width kind places file number unit i ≡ pro_link places file kind (width * number + i) (pointer_of unit i)
table_link width kind places file number unit i below =
    let test : nat_lt i width ≡ true = grind (arith, nat_tests, below) in
    ap (λ b. if b then pro_link places file kind (width * number + i) (pointer_of unit i) else Null) test

child_of_table : (places : ℕ) (kind : PartKind) (width : ℕ) (child : PartKind) (file number : ℕ) (unit : List ℕ) (i : ℕ) → IsTable kind width child
    → pro_child places kind file number unit i ≡ link_below width child places file number unit i
child_of_table places kind width child file number unit i (inl master) =
    ap (λ k. pro_child places k file number unit i) master.0
    ∙ ap (λ w. link_below w Index places file number unit i) (sym master.1) ∙ ap (λ k. link_below width k places file number unit i) (sym master.2)
child_of_table places kind width child file number unit i (inr index) =
    ap (λ k. pro_child places k file number unit i) index.0
    ∙ ap (λ w. link_below w Body places file number unit i) (sym index.1) ∙ ap (λ k. link_below width k places file number unit i) (sym index.2)

module _ (reserved : List Bool) (places file : ℕ) (planned : List Planned) (plan : IsProPlan places file planned) where
  table : (k width i : ℕ) (child : PartKind) → k < length planned → IsTable (part_of planned k).kind width child → i < width
      → built_link (pro_meaning reserved) places planned k i ≡ pro_link places file child (width * (part_of planned k).number + i) (pointer_of (unit_of planned k) i)
  table k width i child within is inside =
      child_of_table places (part_of planned k).kind width child (part_of planned k).file (part_of planned k).number (unit_of planned k) i is
      ∙ table_link width child places (part_of planned k).file (part_of planned k).number (unit_of planned k) i inside
      ∙ ap (λ f. pro_link places f child (width * (part_of planned k).number + i) (pointer_of (unit_of planned k) i)) (plan.in_file k within)

  to_part : (k width i m : ℕ) (child : PartKind) → k < length planned → IsTable (part_of planned k).kind width child → i < width → m < length planned
      → (part_of planned m).kind ≡ child → (part_of planned m).number ≡ width * (part_of planned k).number + i → pointer_of (unit_of planned k) i ≡ place_of planned m
      → built_link (pro_meaning reserved) places planned k i ≡ To (part_of planned m)
  to_part k width i m child within is inside there kind number names =
      table k width i child within is inside
      ∙ ap (pro_link places file child (width * (part_of planned k).number + i)) names
      ∙ block_link places file child (width * (part_of planned k).number + i) (place_of planned m) (plan.named m there)
      ∙ ap To (part_eta (part_of planned m) file child (width * (part_of planned k).number + i) (plan.in_file m there) kind number)

  abbrev IsClosed : ℕ → ℕ → Type 0
  IsClosed k i = (built_link (pro_meaning reserved) places planned k i ≡ Null)
      ⊎ ((m : ℕ) × (m < length planned) × (built_link (pro_meaning reserved) places planned k i ≡ To (part_of planned m)))

  closed_table : (k width i : ℕ) (child : PartKind) → k < length planned → IsTable (part_of planned k).kind width child → i < width → IsClosed k i
  closed_table k width i child within is inside = elim (plan.pointers k width i child within is inside) [
    | inl none ↦ inl (table k width i child within is inside ∙ ap (pro_link places file child (width * (part_of planned k).number + i)) none)
    | inr found ↦ inr (found.0, found.1, to_part k width i found.0 child within is inside found.1 found.2 found.3 found.4)
  ]

  closed : (k i : ℕ) → k < length planned → i < pro_pointers (part_of planned k).kind → IsClosed k i
  closed k i within inside = by_kind (plan.kinds k within)
    where
      none_below : i < 0 → ⊥
      none_below low = omega (arith, low)

      by_kind : ((part_of planned k).kind ≡ Body) ⊎ ((part_of planned k).kind ≡ Index) ⊎ ((part_of planned k).kind ≡ Master) → IsClosed k i
      by_kind (inl body) = absurd (none_below (subst (λ kind. i < pro_pointers kind) body inside))
      by_kind (inr (inl index)) = closed_table k 256 i Body within (inr (index, refl, refl)) (subst (λ kind. i < pro_pointers kind) index inside)
      by_kind (inr (inr master)) = closed_table k 128 i Index within (inl (master, refl, refl)) (subst (λ kind. i < pro_pointers kind) master inside)

  module _ (root : Link) (first : root ≡ To (part_of planned 0)) where
    led : (k : ℕ) → k < length planned
        → (root ≡ To (part_of planned k)) ⊎ ((j i : ℕ) × (j < k) × (built_link (pro_meaning reserved) places planned j i ≡ To (part_of planned k)))
    led zero within = inl first
    led (suc k) within =
        let above = plan.above (suc k) (omega arith) within in
        let near : above.0 < length planned = omega (arith, above.3, within) in
        inr (above.0, above.2, above.3, to_part above.0 above.1 above.2 (suc k) (part_of planned (suc k)).kind near above.4 above.5 within refl above.6 above.7)

    pub pro_built : IsBuilt (pro_meaning reserved) places planned root
    pro_built = record {
      once = plan.once;
      entry = inr (0, plan.some, first);
      closed = closed;
      led = led;
    }

-- the key pointer of an entry whose storage type is that of a file's first part names this part
pub first_root : (places file storage : ℕ) (part : Part) → CanNameBlock places part.place → IsStorageOf storage part.kind → part.number ≡ 0
    → pro_root places file storage part.place ≡ To (in_file part file)
first_root places file storage part named is zeroth =
    by_kind is ∙ block_link places file part.kind 0 part.place named
    ∙ ap (λ n. To (record { file = file; kind = part.kind; number = n; place = part.place })) (sym zeroth)
  where
    by_kind : IsStorageOf storage part.kind → pro_root places file storage part.place ≡ pro_link places file part.kind 0 part.place
    by_kind (inl (one, kind)) = ap (λ s. pro_root places file s part.place) one ∙ ap (λ k. pro_link places file k 0 part.place) (sym kind)
    by_kind (inr (inl (two, kind))) = ap (λ s. pro_root places file s part.place) two ∙ ap (λ k. pro_link places file k 0 part.place) (sym kind)
    by_kind (inr (inr (three, kind))) = ap (λ s. pro_root places file s part.place) three ∙ ap (λ k. pro_link places file k 0 part.place) (sym kind)

-- the plan of a seedling is one
pub seedling_planned : (places file place : ℕ) (unit : List ℕ) → CanNameBlock places place → IsProPlan places file (seedling_plan file place unit)
seedling_planned places file place unit named = record {
  some = omega arith;
  in_file = in_file;
  named = can;
  once = λ j k less within. absurd (omega (arith, less, within));
  kinds = kinds;
  pointers = λ k width i child within is below. absurd (no_table k width child within is);
  above = λ k some within. absurd (omega (arith, some, within));
}
  where
    in_file : (k : ℕ) → k < 1 → (part_of (seedling_plan file place unit) k).file ≡ file
    in_file zero within = refl
    in_file (suc k) within = absurd (omega (arith, within))

    can : (k : ℕ) → k < 1 → CanNameBlock places (place_of (seedling_plan file place unit) k)
    can zero within = named
    can (suc k) within = absurd (omega (arith, within))

    kinds : (k : ℕ) → k < 1 → ((part_of (seedling_plan file place unit) k).kind ≡ Body) ⊎ ((part_of (seedling_plan file place unit) k).kind ≡ Index) ⊎ ((part_of (seedling_plan file place unit) k).kind ≡ Master)
    kinds zero within = inl refl
    kinds (suc k) within = absurd (omega (arith, within))

    no_table : (k width : ℕ) (child : PartKind) → k < 1 → IsTable (part_of (seedling_plan file place unit) k).kind width child → ⊥
    no_table zero width child within (inl master) = let e = master.0 in cc
    no_table zero width child within (inr index) = let e = index.0 in cc
    no_table (suc k) width child within is = omega (arith, within)
