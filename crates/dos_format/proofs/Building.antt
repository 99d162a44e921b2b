-- A plan of a DOS 3.3 file is built.
use Rattle.std.specs.Prelude.{◌≡◌, ◌⊎◌, ◌<◌, ◌≤◌, ℕ, zero, suc, ◌+◌, ◌*◌, ◌/◌, ◌%◌, ◌==◌, nat_lt, if◌then◌else◌, Bool, true, List, length, slice_index}
use Rattle.std.proofs.Common.{refl, sym, ◌∙◌, ap, subst, arith, inl, inr}
use Rattle.std.proofs.lemmas.Bool.Decides.{nat_tests}
use Rattle.a2_device.specs.declared.part.Part.{Part}
use Rattle.a2_device.specs.declared.part.PartKind.{PartKind}
use Rattle.a2_device.specs.declared.part.PartKind.TheVariants.{List as AList, Body}
use Rattle.dos_vtoc.specs.Vtoc.{link_of}
use Rattle.dos_catalog.specs.declared.slot.NewEntry.{NewEntry}
use Rattle.dos_tslist.specs.Pointers.{pair_offset, pointer_of, pair_of}
use Rattle.vol_format.specs.declared.link.Link.{Link}
use Rattle.vol_format.specs.declared.link.Link.TheVariants.{Null, To}
use Rattle.dos_format.specs.Dos.{link_to, list_link, dos_child, dos_pointers, dos_meaning, CanNameDos}
use Rattle.dos_format.specs.lemmas.DosBytes.{stored, link_to-place}
use Rattle.vol_laws.specs.Built.{Planned, part_of, place_of, unit_of, built_link, IsBuilt}
use Rattle.dos_format.specs.Plan.{NamesAt, IsDosPlan}
use Rattle.dos_format.specs.Slots.{new_listed}

cases_le : (a b : ℕ) → (a ≤ b) ⊎ (b < a)
cases_le zero b = inl (omega arith)
cases_le (suc a) zero = inr (omega arith)
cases_le (suc a) (suc b) = elim (cases_le a b) [
  | inl low ↦ inl (omega (arith, low))
  | inr high ↦ inr (omega (arith, high))
]

pub named_at : (file : ℕ) (kind : PartKind) (number : ℕ) (unit : List ℕ) (at place : ℕ) → NamesAt unit at place → CanNameDos place
    → link_to file kind number (pointer_of unit at) ≡ To (record { file = file; kind = kind; number = number; place = place })
named_at file kind number unit at place names named =
    ap (λ t. link_to file kind number (stored t (slice_index unit (at + 1)))) names.0
    ∙ ap (λ s. link_to file kind number (stored (place / 16) s)) names.1
    ∙ link_to-place file kind number place named

pub null_at : (file : ℕ) (kind : PartKind) (number : ℕ) (unit : List ℕ) (at : ℕ) → slice_index unit at ≡ 0 → link_to file kind number (pointer_of unit at) ≡ Null
null_at file kind number unit at none = ap (λ t. link_to file kind number (stored t (slice_index unit (at + 1)))) none

pub part_eta : (part : Part) (file : ℕ) (kind : PartKind) (number : ℕ) → part.file ≡ file → part.kind ≡ kind → part.number ≡ number
    → record { file = file; kind = kind; number = number; place = part.place } ≡ part
part_eta part file kind number of_file of_kind numbered =
    ap (λ f. record { file = f; kind = kind; number = number; place = part.place }) (sym of_file)
    ∙ ap (λ k. record { file = part.file; kind = k; number = number; place = part.place }) (sym of_kind)
    ∙ ap (λ n. record { file = part.file; kind = part.kind; number = n; place = part.place }) (sym numbered)

pub pair_link : (file n : ℕ) (unit : List ℕ) (i : ℕ) → i < 122 → list_link file n unit i ≡ link_to file Body (122 * n + i) (pair_of unit i)
pair_link file n unit i below =
    let test : nat_lt i 122 ≡ true = grind (arith, nat_tests, below) in
    ap (λ b. if b then link_to file Body (122 * n + i) (pair_of unit i) else (if i == 122 then link_to file AList (n + 1) (link_of unit) else Null)) test

pub next_link : (file n : ℕ) (unit : List ℕ) → list_link file n unit 122 ≡ link_to file AList (n + 1) (pointer_of unit 1)
next_link file n unit = refl

module _ (data_disk : Bool) (reserved : List Bool) (places file count : ℕ) (planned : List Planned) (plan : IsDosPlan file count planned) where
  link_of_list : (n i : ℕ) → n < count → built_link (dos_meaning data_disk reserved) places planned n i ≡ list_link file n (unit_of planned n) i
  link_of_list n i within =
      ap (λ kind. dos_child kind (part_of planned n).file (part_of planned n).number (unit_of planned n) i) (plan.lists n within).0
      ∙ ap (λ f. list_link f (part_of planned n).number (unit_of planned n) i) (plan.in_file n (omega (arith, within, plan.enough)))
      ∙ ap (λ number. list_link file number (unit_of planned n) i) (plan.lists n within).1

  -- a pair, and the link, that name a part of the plan
  to_body : (n i m : ℕ) → n < count → i < 122 → count ≤ m → m < length planned → (part_of planned m).number ≡ 122 * n + i → NamesAt (unit_of planned n) (pair_offset i) (place_of planned m)
      → built_link (dos_meaning data_disk reserved) places planned n i ≡ To (part_of planned m)
  to_body n i m list pair high within numbered names =
      link_of_list n i list ∙ pair_link file n (unit_of planned n) i pair
      ∙ named_at file Body (122 * n + i) (unit_of planned n) (pair_offset i) (place_of planned m) names (plan.named m within)
      ∙ ap To (part_eta (part_of planned m) file Body (122 * n + i) (plan.in_file m within) (plan.body m high within).0 numbered)

  to_list : (n : ℕ) → n + 1 < count → built_link (dos_meaning data_disk reserved) places planned n 122 ≡ To (part_of planned (n + 1))
  to_list n more =
      let list : n < count = omega (arith, more) in
      let within : n + 1 < length planned = omega (arith, more, plan.enough) in
      link_of_list n 122 list ∙ next_link file n (unit_of planned n)
      ∙ named_at file AList (n + 1) (unit_of planned n) 1 (place_of planned (n + 1)) ((plan.link n list).next more) (plan.named (n + 1) within)
      ∙ ap To (part_eta (part_of planned (n + 1)) file AList (n + 1) (plan.in_file (n + 1) within) (plan.lists (n + 1) more).0 (plan.lists (n + 1) more).1)

  closed : (k i : ℕ) → k < length planned → i < dos_pointers (part_of planned k).kind
      → (built_link (dos_meaning data_disk reserved) places planned k i ≡ Null)
      ⊎ ((m : ℕ) × (m < length planned) × (built_link (dos_meaning data_disk reserved) places planned k i ≡ To (part_of planned m)))
  closed k i within inside = elim (cases_le count k) [
    | inl high ↦ absurd (none_below (subst (λ kind. i < dos_pointers kind) (plan.body k high within).0 inside))
    | inr list ↦
        let few : i < 123 = subst (λ kind. i < dos_pointers kind) (plan.lists k list).0 inside in
        elim (cases_le 122 i) [
          | inl last ↦
              let at : 122 ≡ i = omega (arith, few, last) in
              subst (λ p. (built_link (dos_meaning data_disk reserved) places planned k p ≡ Null)
              ⊎ ((m : ℕ) × (m < length planned) × (built_link (dos_meaning data_disk reserved) places planned k p ≡ To (part_of planned m)))) at (of_link k list)
          | inr pair ↦ elim ((plan.pairs k list).pairs i pair) [
            | inl none ↦ inl (link_of_list k i list ∙ pair_link file k (unit_of planned k) i pair ∙ null_at file Body (122 * k + i) (unit_of planned k) (pair_offset i) none)
            | inr found ↦ inr (found.0, found.2, to_body k i found.0 list pair found.1 found.2 found.3 found.4)
          ]
        ]
  ]
    where
      none_below : i < 0 → ⊥
      none_below low = omega (arith, low)

      of_link : (n : ℕ) → n < count → (built_link (dos_meaning data_disk reserved) places planned n 122 ≡ Null)
          ⊎ ((m : ℕ) × (m < length planned) × (built_link (dos_meaning data_disk reserved) places planned n 122 ≡ To (part_of planned m)))
      of_link n list = elim (cases_le count (n + 1)) [
        | inl end ↦
            let last : n + 1 ≡ count = omega (arith, list, end) in
            inl (link_of_list n 122 list ∙ next_link file n (unit_of planned n) ∙ null_at file AList (n + 1) (unit_of planned n) 1 ((plan.link n list).last last))
        | inr more ↦ inr (n + 1, omega (arith, more, plan.enough), to_list n more)
      ]

  module _ (root : Link) (first : root ≡ To (part_of planned 0)) where
    led : (k : ℕ) → k < length planned
        → (root ≡ To (part_of planned k)) ⊎ ((j i : ℕ) × (j < k) × (built_link (dos_meaning data_disk reserved) places planned j i ≡ To (part_of planned k)))
    led k within = elim (cases_le count k) [
      | inl high ↦
          let body = plan.body k high within in
          let number = (part_of planned k).number in
          let low : number % 122 < 122 = omega arith in
          let whole : number ≡ 122 * (number / 122) + number % 122 = omega arith in
          inr (
            number / 122,
            number % 122,
            omega (arith, high, body.1),
            to_body (number / 122) (number % 122) k body.1 low high within whole ((plan.pairs (number / 122) body.1).each k high within refl),
          )
      | inr list ↦ of_list k list
    ]
      where
        of_list : (n : ℕ) → n < count → (root ≡ To (part_of planned n)) ⊎ ((j i : ℕ) × (j < n) × (built_link (dos_meaning data_disk reserved) places planned j i ≡ To (part_of planned n)))
        of_list zero list = inl first
        of_list (suc n) list =
            let up : n + 1 ≡ suc n = omega arith in
            inr (n, 122, omega arith, subst (λ p. built_link (dos_meaning data_disk reserved) places planned n 122 ≡ To (part_of planned p)) up (to_list n (omega (arith, list))))

    pub dos_built : IsBuilt (dos_meaning data_disk reserved) places planned root
    dos_built = record {
      once = plan.once;
      entry = inr (0, omega (arith, plan.has_list, plan.enough), first);
      closed = closed;
      led = led;
    }

pub plan_built : (data_disk : Bool) (reserved : List Bool) (places file count : ℕ) (planned : List Planned) → IsDosPlan file count planned
    → IsBuilt (dos_meaning data_disk reserved) places planned (To (part_of planned 0))
plan_built data_disk reserved places file count planned plan = dos_built data_disk reserved places file count planned plan (To (part_of planned 0)) refl

-- the new entry whose pointer is the place of the first list
pub entry_built : (data_disk : Bool) (reserved : List Bool) (places file count : ℕ) (planned : List Planned) (place slot : ℕ) (new : NewEntry)
    → IsDosPlan file count planned → new.pointer ≡ place_of planned 0 → IsBuilt (dos_meaning data_disk reserved) places planned (new_listed file place slot new).root
entry_built data_disk reserved places file count planned place slot new plan first =
    dos_built data_disk reserved places file count planned plan (new_listed file place slot new).root
    (ap (λ p. To (record { file = file; kind = AList; number = 0; place = p })) first
    ∙ ap To (part_eta (part_of planned 0) file AList 0 (plan.in_file 0 (omega (arith, plan.has_list, plan.enough))) (plan.lists 0 plan.has_list).0 (plan.lists 0 plan.has_list).1))
