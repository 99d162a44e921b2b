-- A plan by its units, and its body.
use Rattle.std.proofs.Common.{◌≡◌, ◌<◌, ℕ, Bool, true, List, length, get_or, refl, sym, ◌∙◌, ap, subst, arith}
use Rattle.std.specs.Prelude.{filter}
use Rattle.std.specs.List.{AllPairs, Contains, range_with_len}
use Rattle.std.proofs.lemmas.List.{get_or_default, get_or-map, length-map}
use Rattle.std.proofs.lemmas.List.FromFn.{get_or-map-range_with_len, get_or-range_with_len, length-map-range_with_len, length-range_with_len}
use Rattle.std.proofs.lemmas.List.Kept.{AllPairs-filter}
use Rattle.a2_device.specs.Device.{unit_at}
use Rattle.a2_device.specs.declared.part.PartKind.TheVariants.{Body}
use Rattle.vol_format.proofs.Filters.{in_filter, out_of_filter}
use Rattle.vol_format.specs.Files.{Stored}
use Rattle.vol_laws.specs.Built.{HasPlannedUnit, IsBodyOf, Planned, no_plan, unit_of}
use Rattle.edit_formats.specs.declared.new_part.NewPart.{NewPart}
use Rattle.edit_formats.specs.Order.{HasStored, no_part, part_at}
use Rattle.edit_formats.specs.Parts.{is_stored, new_part}
use Rattle.edit_formats.specs.lemmas.Membership.{inside_file}
use Rattle.edit_formats.specs.Placed.{HasBodyUnits, HasPlaced, plan_with, placed, stored_units}
use Rattle.edit_formats.specs.lemmas.Parts.{part_is, plan_kind, plan_number}

module _ (file : ℕ) (parts : List NewPart) (places : List ℕ) (units : List (List ℕ)) where
  abbrev each : ℕ → Planned
  each k = record { part = placed file parts places k; unit = unit_at units k }

  plan_at : (k : ℕ) → k < length parts → get_or (plan_with file parts places units) k no_plan ≡ each k
  unfolding plan_with
  plan_at k within = get_or-map-range_with_len each 0 (length parts) k k no_plan within (omega arith)

  plan_size : length (plan_with file parts places units) ≡ length parts
  unfolding plan_with
  plan_size = length-map-range_with_len each 0 (length parts)

  pub plan_placed : HasPlaced file parts places (plan_with file parts places units)
  plan_placed = record { size = plan_size; each = λ k within. ap (λ (plan : Planned). plan.part) (plan_at k within) }

  pub plan_unit : (k : ℕ) → k < length parts → unit_of (plan_with file parts places units) k ≡ unit_at units k
  plan_unit k within = ap (λ (plan : Planned). plan.unit) (plan_at k within)

module _ (stored : List Bool) (content : List (List ℕ)) where
  abbrev numbers : List ℕ
  numbers = filter (is_stored stored) (range_with_len 0 (length stored))

  abbrev one : ℕ → Stored
  one number = record { number = number; unit = unit_at content number }

  numbers_rise : AllPairs (λ number later. number < later) numbers
  numbers_rise = AllPairs-filter (λ number later. number < later) (is_stored stored) (range_with_len 0 (length stored)) (λ i j d less within.
      let inside : j < length stored = omega (arith, within, length-range_with_len 0 (length stored)) in
      omega (arith, less, get_or-range_with_len 0 (length stored) i d (omega (arith, less, inside)), get_or-range_with_len 0 (length stored) j d inside))

  units_rise : AllPairs (λ (unit later : Stored). unit.number < later.number) (stored_units stored content)
  unfolding stored_units
  units_rise i j d less within =
      let inside : j < length numbers = omega (arith, within, length-map numbers one) in
      let first = get_or-map one numbers i 0 d (omega (arith, less, inside)) in
      let second = get_or-map one numbers j 0 d inside in
      omega (arith, numbers_rise i j 0 less inside, ap (λ (unit : Stored). unit.number) first, ap (λ (unit : Stored). unit.number) second)

  -- a unit that is stored is listed, and no other
  listed : (number : ℕ) → is_stored stored number ≡ true → Contains (stored_units stored content) (one number)
  unfolding stored_units
  listed number is =
      let inside = inside_file stored number is in
      let found = in_filter (is_stored stored) (range_with_len 0 (length stored)) number
      (number, omega (arith, inside, length-range_with_len 0 (length stored)), get_or-range_with_len 0 (length stored) number number inside ∙ omega arith) is in
      (found.0, omega (arith, found.1, length-map numbers one), get_or-map one numbers found.0 number (one number) found.1 ∙ ap one found.2)

  listed_is : (unit : Stored) → Contains (stored_units stored content) unit → (number : ℕ) × (is_stored stored number ≡ true) × (one number ≡ unit)
  unfolding stored_units
  listed_is unit has =
      let inside : has.0 < length numbers = omega (arith, has.1, length-map numbers one) in
      let number = get_or numbers has.0 0 in
      let passes = out_of_filter (is_stored stored) (range_with_len 0 (length stored)) number (has.0, inside, get_or_default numbers has.0 number 0 inside) in
      (number, passes.1, sym (get_or-map one numbers has.0 0 unit inside) ∙ has.2)

-- the body of a plan
pub body_placed : (file : ℕ) (stored : List Bool) (content : List (List ℕ)) (parts : List NewPart) (places : List ℕ) (planned : List Planned)
    → HasStored stored parts → HasPlaced file parts places planned → HasBodyUnits parts content planned → IsBodyOf planned (stored_units stored content)
body_placed file stored content parts places planned units has bodies = record {
  members = λ unit. (
    λ is.
        let found = listed_is stored content unit is in
        let there = (units found.0).1 found.1 in
        subst (HasPlannedUnit planned) found.2 (planned_at there.0 there.1 found.0 there.2),
    λ is. of_plan unit is,
  );
  rising = units_rise stored content;
}
  where
    planned_at : (k : ℕ) → k < length parts → (number : ℕ) → get_or parts k (new_part Body number) ≡ new_part Body number → HasPlannedUnit planned (one stored content number)
    planned_at k within number same =
        let at : part_at parts k ≡ new_part Body number = sym (get_or_default parts k (new_part Body number) no_part within) ∙ same in
        let kind = ap (λ (part : NewPart). part.kind) at in
        let numbered = ap (λ (part : NewPart). part.number) at in (
          k,
          omega (arith, within, has.size),
          plan_kind file parts places planned has k within ∙ kind,
          plan_number file parts places planned has k within ∙ numbered,
          bodies k within kind ∙ ap (unit_at content) numbered,
        )

    of_plan : (unit : Stored) → HasPlannedUnit planned unit → Contains (stored_units stored content) unit
    of_plan unit is =
        let within : is.0 < length parts = omega (arith, is.1, has.size) in
        let number = (part_at parts is.0).number in
        let kind = sym (plan_kind file parts places planned has is.0 within) ∙ is.2 in
        let at = part_is (part_at parts is.0) Body number kind refl in
        let there = (units number).0 (is.0, within, get_or_default parts is.0 (new_part Body number) no_part within ∙ at) in
        let numbered : number ≡ unit.number = sym (plan_number file parts places planned has is.0 within) ∙ is.3 in
        let stands : unit_at content number ≡ unit.unit = sym (bodies is.0 within kind) ∙ is.4 in
        let same : one stored content number ≡ unit =
        ap (λ n. record { number = n; unit = unit_at content number }) numbered ∙ ap (λ u. record { number = unit.number; unit = u }) stands in
        subst (Contains (stored_units stored content)) same (listed stored content number there)
