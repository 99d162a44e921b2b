-- The parts of a new file by their order.
use Rattle.std.proofs.Common.{◌≡◌, ◌≢◌, ◌<◌, ◌+◌, ◌/◌, ℕ, List, length, sym, ◌∙◌, ap, subst, arith, inl, inr}
use Rattle.std.specs.Prelude.{slice_index}
use Rattle.std.proofs.lemmas.Bool.{cases_eq, cases_lt}
use Rattle.a2_device.specs.declared.part.Part.{Part}
use Rattle.a2_device.specs.declared.part.PartKind.{PartKind}
use Rattle.a2_device.specs.declared.part.PartKind.TheVariants.{List as AList, Master, Index, Body}
use Rattle.vol_laws.specs.Built.{IsRisingPlan, Planned, part_of, place_of}
use Rattle.edit_formats.specs.declared.new_part.NewPart.{NewPart}
use Rattle.edit_formats.specs.Order.{AreOrdered, AreDosParts, AreProParts, IsOfIndex, IsOfList, part_at}
use Rattle.edit_formats.specs.Parts.{new_part}
use Rattle.edit_formats.specs.Filling.{IsEnd}
use Rattle.edit_formats.specs.Placed.{HavePlaces, HasPlaced}

pub part_is : (part : NewPart) (kind : PartKind) (number : ℕ) → part.kind ≡ kind → part.number ≡ number → part ≡ new_part kind number
part_is part kind number of_kind numbered =
    ap (λ k. new_part k part.number) of_kind ∙ ap (new_part kind) numbered

module _ (Names : NewPart → NewPart → Type 0) (parts : List NewPart) (o : AreOrdered Names parts) where
  -- no two parts have one kind and one number
  pub only_one : (j k : ℕ) → j < length parts → k < length parts → (part_at parts j).kind ≡ (part_at parts k).kind → (part_at parts j).number ≡ (part_at parts k).number → j ≡ k
  only_one j k j_in k_in kinds numbers = elim (cases_eq j k) [
    | inl same ↦ same
    | inr apart ↦ elim (cases_lt j k) [
      | inl less ↦ absurd (omega (arith, o.rising j k less k_in kinds, numbers))
      | inr more ↦ absurd (omega (arith, o.rising k j (omega (arith, more, apart)) j_in (sym kinds), numbers))
    ]
  ]

  pub same_part : (j k : ℕ) → j < length parts → k < length parts → part_at parts j ≡ part_at parts k → j ≡ k
  same_part j k j_in k_in same = only_one j k j_in k_in (ap (λ (part : NewPart). part.kind) same) (ap (λ (part : NewPart). part.number) same)

  -- a table of a kind names so many units of the body, by their numbers
  module _ (table : PartKind) (width : ℕ) (no_body : table ≡ Body → ⊥) (first : (part_at parts 0).kind ≡ Body → ⊥)
      (says : (above below : NewPart) → Names above below → below.kind ≡ Body → (above.kind ≡ table) × (below.number / width ≡ above.number))
      (at : ℕ) (inside : at < length parts) (is : (part_at parts at).kind ≡ table) where
    some : (k : ℕ) → (part_at parts k).kind ≡ Body → 0 < k
    some k body = elim (cases_eq k 0) [
      | inl zeroth ↦ absurd (first (subst (λ n. (part_at parts n).kind ≡ Body) zeroth body))
      | inr later ↦ omega (arith, later)
    ]

    -- the units that stand behind a table, with such units alone between, are its own
    pub its_number : (k : ℕ) → at < k → k < length parts → (part_at parts k).kind ≡ Body → ((m : ℕ) → at < m → m < k → (part_at parts m).kind ≡ Body)
        → (part_at parts k).number / width ≡ (part_at parts at).number
    its_number k low within body bodies =
        let up = o.above k (some k body) within in
        let of = says (part_at parts up.0) (part_at parts k) up.2 body in
        elim (cases_eq up.0 at) [
          | inl same ↦ subst (λ j. (part_at parts k).number / width ≡ (part_at parts j).number) same of.1
          | inr apart ↦ elim (cases_lt up.0 at) [
            | inl before ↦ absurd (no_body (sym is ∙ up.3 body at before low))
            | inr behind ↦ absurd (no_body (sym of.0 ∙ bodies up.0 (omega (arith, behind, apart)) up.1))
          ]
        ]

    -- and no others are
    pub its_own : (end : ℕ) → IsEnd parts at end → (k : ℕ) → k < length parts → (part_at parts k).kind ≡ Body → (part_at parts k).number / width ≡ (part_at parts at).number → (at < k) × (k < end)
    its_own end ends k within body numbered =
        let up = o.above k (some k body) within in
        let of = says (part_at parts up.0) (part_at parts k) up.2 body in
        let same : up.0 ≡ at = only_one up.0 at (omega (arith, up.1, within)) inside (of.0 ∙ sym is) (sym of.1 ∙ numbered) in (
          omega (arith, up.1, same),
          elim (cases_lt k end) [
            | inl before ↦ before
            | inr past ↦ absurd (ends.next (omega (arith, past, within)) (elim (cases_eq end k) [
              | inl last ↦ subst (λ n. (part_at parts n).kind ≡ Body) (sym last) body
              | inr before ↦ up.3 body end (omega (arith, same, ends.behind)) (omega (arith, past, before))
            ]))
          ],
        )

-- what the tables of the two formats name
pub list_says : (above below : NewPart) → IsOfList above below → below.kind ≡ Body → (above.kind ≡ AList) × (below.number / 122 ≡ above.number)
list_says above below names body = (
  names.0,
  elim names.1 [
    | inl unit ↦ unit.1
    | inr list ↦ absurd (let other = list.0 in cc)
  ],
)

pub index_says : (above below : NewPart) → IsOfIndex above below → below.kind ≡ Body → (above.kind ≡ Index) × (below.number / 256 ≡ above.number)
index_says above below names body = elim names [
  | inl master ↦ absurd (let other = master.1 in cc)
  | inr index ↦ (index.0, index.2)
]

no_list : AList ≡ Body → ⊥
no_list is = cc

no_index : Index ≡ Body → ⊥
no_index is = cc

-- DOS 3.3: a list, and the end of its units
module _ (parts : List NewPart) (are : AreDosParts parts) (at : ℕ) (inside : at < length parts) (is : (part_at parts at).kind ≡ AList) where
  dos_first : (part_at parts 0).kind ≡ Body → ⊥
  dos_first body = no_list (sym (ap (λ (part : NewPart). part.kind) are.first) ∙ body)

  pub list_number : (k : ℕ) → at < k → k < length parts → (part_at parts k).kind ≡ Body → ((m : ℕ) → at < m → m < k → (part_at parts m).kind ≡ Body)
      → (part_at parts k).number / 122 ≡ (part_at parts at).number
  list_number = its_number IsOfList parts are.ordered AList 122 no_list dos_first list_says at inside is

module _ (parts : List NewPart) (are : AreDosParts parts) (at end : ℕ) (inside : at < length parts) (is : (part_at parts at).kind ≡ AList) (ends : IsEnd parts at end) where
  pub list_own : (k : ℕ) → k < length parts → (part_at parts k).kind ≡ Body → (part_at parts k).number / 122 ≡ (part_at parts at).number → (at < k) × (k < end)
  list_own = its_own IsOfList parts are.ordered AList 122 no_list (dos_first parts are at inside is) list_says at inside is end ends

  pub next_list : end < length parts → part_at parts end ≡ new_part AList ((part_at parts at).number + 1)
  next_list more =
      let up = are.ordered.above end (omega (arith, ends.behind)) more in
      elim up.2.1 [
        | inl unit ↦ absurd (ends.next more unit.0)
        | inr list ↦
            let higher = are.ordered.rising at end ends.behind more (is ∙ sym list.0) in
            let same : up.0 ≡ at = elim (cases_eq up.0 at) [
              | inl here ↦ here
              | inr apart ↦ elim (cases_lt up.0 at) [
                | inl before ↦ absurd (omega (arith, are.ordered.rising up.0 at before inside (up.2.0 ∙ sym is), higher, list.1))
                | inr behind ↦ absurd (no_list (sym up.2.0 ∙ ends.bodies up.0 (omega (arith, behind, apart)) up.1))
              ]
            ] in
            part_is (part_at parts end) AList ((part_at parts at).number + 1) list.0 (list.1 ∙ ap (λ j. (part_at parts j).number + 1) same)
      ]

  pub no_next : end ≡ length parts → (k : ℕ) → k < length parts → part_at parts k ≡ new_part AList ((part_at parts at).number + 1) → ⊥
  no_next all k within list =
      let kind = ap (λ (part : NewPart). part.kind) list in
      let number = ap (λ (part : NewPart). part.number) list in
      elim (cases_lt at k) [
        | inl behind ↦ no_list (sym kind ∙ ends.bodies k behind (omega (arith, within, all)))
        | inr before ↦ elim (cases_eq k at) [
          | inl same ↦ absurd (omega (arith, number, ap (λ j. (part_at parts j).number) same))
          | inr apart ↦ omega (arith, are.ordered.rising k at (omega (arith, before, apart)) inside (kind ∙ sym is), number)
        ]
      ]

-- ProDOS: an index of a number, and the end of its units
module _ (storage : ℕ) (parts : List NewPart) (are : AreProParts storage parts) where
  pub pro_first : (at : ℕ) → at < length parts → ((part_at parts at).kind ≡ Body → ⊥) → (part_at parts 0).kind ≡ Body → ⊥
  pro_first at inside other body = elim are.first [
    | inl seedling ↦
        let zeroth : at ≡ 0 = omega (arith, inside, seedling.2) in
        other (subst (λ n. (part_at parts n).kind ≡ Body) (sym zeroth) body)
    | inr others ↦ elim others [
      | inl sapling ↦ no_index (sym (ap (λ (part : NewPart). part.kind) sapling.1) ∙ body)
      | inr tree ↦ absurd (let first = ap (λ (part : NewPart). part.kind) tree.1 in cc)
    ]
  ]

  module _ (at : ℕ) (inside : at < length parts) (is : (part_at parts at).kind ≡ Index) where
    first : (part_at parts 0).kind ≡ Body → ⊥
    first = pro_first at inside (λ body. no_index (sym is ∙ body))

    pub index_number : (k : ℕ) → at < k → k < length parts → (part_at parts k).kind ≡ Body → ((m : ℕ) → at < m → m < k → (part_at parts m).kind ≡ Body)
        → (part_at parts k).number / 256 ≡ (part_at parts at).number
    index_number = its_number IsOfIndex parts are.ordered Index 256 no_index first index_says at inside is

    pub index_own : (end : ℕ) → IsEnd parts at end → (k : ℕ) → k < length parts → (part_at parts k).kind ≡ Body → (part_at parts k).number / 256 ≡ (part_at parts at).number → (at < k) × (k < end)
    index_own = its_own IsOfIndex parts are.ordered Index 256 no_index first index_says at inside is

  -- a master index is the first part, and has number 0
  pub master_first : (k : ℕ) → k < length parts → (part_at parts k).kind ≡ Master → (k ≡ 0) × ((part_at parts k).number ≡ 0)
  master_first k within is = elim (cases_eq k 0) [
    | inl zeroth ↦ (zeroth, ap (λ n. (part_at parts n).number) zeroth ∙ number (subst (λ n. (part_at parts n).kind ≡ Master) zeroth is))
    | inr later ↦ absurd (below (are.ordered.above k (omega (arith, later)) within).2)
  ]
    where
      number : (part_at parts 0).kind ≡ Master → (part_at parts 0).number ≡ 0
      number master = elim are.first [
        | inl seedling ↦ ap (λ (part : NewPart). part.number) seedling.1
        | inr others ↦ elim others [
          | inl sapling ↦ ap (λ (part : NewPart). part.number) sapling.1
          | inr tree ↦ ap (λ (part : NewPart). part.number) tree.1
        ]
      ]

      below : {above : NewPart} → IsOfIndex above (part_at parts k) → ⊥
      below (inl index) = let other = index.1 in cc
      below (inr body) = let other = body.1 in cc

  -- of the indexes behind it each has a number below 128
  pub index_low : (k : ℕ) → 0 < k → k < length parts → (part_at parts k).kind ≡ Index → (part_at parts k).number < 128
  index_low k later within is =
      let up = are.ordered.above k later within in
      elim up.2 [
        | inl master ↦ omega (arith, master.2, (master_first up.0 (omega (arith, up.1, within)) master.0).1)
        | inr body ↦ absurd (let other = body.1 in cc)
      ]

-- places by their numbers
module _ (CanName : ℕ → Type 0) (parts : List NewPart) (places : List ℕ) (have : HavePlaces CanName parts places) where
  pub can_name : (k : ℕ) → k < length parts → CanName (slice_index places k)
  can_name k within = have.named k 0 (omega (arith, within, have.size))

  pub place_once : (j k : ℕ) → j < k → k < length parts → slice_index places j ≢ slice_index places k
  place_once j k less within = have.once j k 0 less (omega (arith, within, have.size))

-- the parts of a plan that has these
module _ (file : ℕ) (parts : List NewPart) (places : List ℕ) (planned : List Planned) (has : HasPlaced file parts places planned) where
  pub plan_kind : (k : ℕ) → k < length parts → (part_of planned k).kind ≡ (part_at parts k).kind
  plan_kind k within = ap (λ (part : Part). part.kind) (has.each k within)

  pub plan_number : (k : ℕ) → k < length parts → (part_of planned k).number ≡ (part_at parts k).number
  plan_number k within = ap (λ (part : Part). part.number) (has.each k within)

  pub plan_place : (k : ℕ) → k < length parts → place_of planned k ≡ slice_index places k
  plan_place k within = ap (λ (part : Part). part.place) (has.each k within)

  pub plan_rising : (Names : NewPart → NewPart → Type 0) → AreOrdered Names parts → IsRisingPlan planned
  plan_rising Names o j k less within first second =
      let k_in : k < length parts = omega (arith, within, has.size) in
      let j_in : j < length parts = omega (arith, less, k_in) in
      omega (arith, o.rising j k less k_in (sym (plan_kind j j_in) ∙ first ∙ sym second ∙ plan_kind k k_in), plan_number j j_in, plan_number k k_in)

-- one unit of the body more behind a table
pub one_behind : (parts : List NewPart) (at k : ℕ) → (part_at parts k).kind ≡ Body → ((m : ℕ) → at < m → m < k → (part_at parts m).kind ≡ Body)
    → (m : ℕ) → at < m → m < k + 1 → (part_at parts m).kind ≡ Body
one_behind parts at k body bodies m low high = elim (cases_eq m k) [
  | inl same ↦ subst (λ n. (part_at parts n).kind ≡ Body) (sym same) body
  | inr apart ↦ bodies m low (omega (arith, high, apart))
]
