-- The units of a plan written, and the body of a plan.
use Rattle.std.specs.Prelude.{◌≡◌, ◌≢◌, ◌⊎◌, ◌<◌, ℕ, zero, suc, Bool, true, false, List, [], ◌∷◌, length, map, filter, slice_index_or, AllPairs, Contains}
use Rattle.std.proofs.Common.{refl, sym, ◌∙◌, ap, subst, arith, cond, inl, inr}
use Rattle.std.proofs.lemmas.List.Elements.{Contains-get_or}
use Rattle.std.proofs.lemmas.List.{get_or-set_same, get_or-set_other, length-set}
use Rattle.std.proofs.lemmas.List.Kept.{AllPairs-cons}
use Rattle.a2_device.specs.Device.{unit_at}
use Rattle.a2_device.specs.declared.part.PartKind.{PartKind}
use Rattle.a2_device.specs.declared.part.PartKind.TheVariants.{List as AList, Master, Index, Body}
use Rattle.vol_format.specs.Files.{Stored}
use Rattle.vol_laws.specs.Built.{Planned, part_of, place_of, unit_of, AreHeld, HasPlacesOnce, HasPlannedUnit, IsBodyOf, is_body_kind, stored_of, body_of, IsRisingPlan, written}

pub length-written : (store : List (List ℕ)) (planned : List Planned) → length (written store planned) ≡ length store
length-written store [] = refl
length-written store (plan ∷ planned) = length-set (written store planned) plan.part.place plan.unit ∙ length-written store planned

-- no other place is written
pub written_other : (store : List (List ℕ)) (planned : List Planned) (place : ℕ) → ((k : ℕ) → k < length planned → place ≢ place_of planned k)
    → unit_at (written store planned) place ≡ unit_at store place
written_other store [] place apart = refl
written_other store (plan ∷ planned) place apart =
    get_or-set_other (written store planned) plan.part.place place plan.unit [] (apart zero (omega arith))
    ∙ written_other store planned place (λ k within. apart (suc k) (omega (arith, within)))

-- the units stand at their places
pub written_held : (store : List (List ℕ)) (planned : List Planned)
    → HasPlacesOnce planned
    → ((k : ℕ) → k < length planned → place_of planned k < length store) → AreHeld (written store planned) planned
written_held store [] once inside k within = absurd (omega (arith, within))
written_held store (plan ∷ planned) once inside zero within =
    get_or-set_same (written store planned) plan.part.place plan.unit [] (omega (arith, length-written store planned, inside zero within))
written_held store (plan ∷ planned) once inside (suc k) within =
    get_or-set_other (written store planned) plan.part.place (place_of planned k) plan.unit [] (λ same. once zero (suc k) (omega arith) within (sym same))
    ∙ written_held store planned (λ j m low below. once (suc j) (suc m) (omega (arith, low)) (omega (arith, below))) (λ m below. inside (suc m) (omega (arith, below)))
    k (omega (arith, within))

body_kind : (kind : PartKind) → is_body_kind kind ≡ true → kind ≡ Body
body_kind Body is = refl
body_kind AList is = absurd (cc)
body_kind Master is = absurd (cc)
body_kind Index is = absurd (cc)

abbrev in_body : Planned → Bool
in_body plan = is_body_kind plan.part.kind

head_or : (first : Stored) (rest : List Stored) (stored : Stored) → Contains (first ∷ rest) stored → (first ≡ stored) ⊎ Contains rest stored
head_or first rest stored has = by_index has.0 has.1 has.2
  where
    by_index : (k : ℕ) → k < length (first ∷ rest) → slice_index_or (first ∷ rest) k stored ≡ stored → (first ≡ stored) ⊎ Contains rest stored
    by_index zero within same = inl same
    by_index (suc k) within same = inr (k, omega (arith, within), same)

has_behind : (plan : Planned) (planned : List Planned) (stored : Stored) → HasPlannedUnit planned stored → HasPlannedUnit (plan ∷ planned) stored
has_behind plan planned stored has = (suc has.0, omega (arith, has.1), has.2, has.3, has.4)

to_plan : (planned : List Planned) (stored : Stored) → Contains (body_of planned) stored → HasPlannedUnit planned stored
to_plan [] stored has = absurd (omega (arith, has.1))
to_plan (plan ∷ planned) stored has = by_test (to_plan planned stored) (in_body plan) refl has
  where
    by_test : (Contains (body_of planned) stored → HasPlannedUnit planned stored) → (b : Bool) → in_body plan ≡ b
        → Contains (map stored_of (cond b (plan ∷ filter in_body planned) (filter in_body planned))) stored → HasPlannedUnit (plan ∷ planned) stored
    by_test further true is has = elim (head_or (stored_of plan) (body_of planned) stored has) [
      | inl same ↦ (zero, omega arith, body_kind plan.part.kind is, ap (λ (s : Stored). s.number) same, ap (λ (s : Stored). s.unit) same)
      | inr behind ↦ has_behind plan planned stored (further behind)
    ]
    by_test further false is has = has_behind plan planned stored (further has)

from_plan : (planned : List Planned) (stored : Stored) → HasPlannedUnit planned stored → Contains (body_of planned) stored
from_plan [] stored has = absurd (omega (arith, has.1))
from_plan (plan ∷ planned) stored has = by_index (from_plan planned stored) has.0 has.1 has.2 has.3 has.4
  where
    by_index : (HasPlannedUnit planned stored → Contains (body_of planned) stored) → (k : ℕ) → k < length (plan ∷ planned) → (part_of (plan ∷ planned) k).kind ≡ Body → (part_of (plan ∷ planned) k).number ≡ stored.number
        → unit_of (plan ∷ planned) k ≡ stored.unit → Contains (body_of (plan ∷ planned)) stored
    by_index further zero within kind number unit =
        subst (λ b. Contains (map stored_of (cond b (plan ∷ filter in_body planned) (filter in_body planned))) stored) (sym (ap is_body_kind kind))
        (zero, omega arith, ap (λ n. record { number = n; unit = plan.unit }) number ∙ ap (λ u. record { number = stored.number; unit = u }) unit)
    by_index further (suc k) within kind number unit = by_test (further (k, omega (arith, within), kind, number, unit)) (in_body plan)
      where
        by_test : Contains (body_of planned) stored → (b : Bool) → Contains (map stored_of (cond b (plan ∷ filter in_body planned) (filter in_body planned))) stored
        by_test rest true = (suc rest.0, omega (arith, rest.1), rest.2)
        by_test rest false = rest

rises : (planned : List Planned) → IsRisingPlan planned → AllPairs (λ (stored later : Stored). stored.number < later.number) (body_of planned)
rises [] rising = λ i j d low within. absurd (omega (arith, within))
rises (plan ∷ planned) rising = by_test (in_body plan) refl (rises planned (λ j k low within. rising (suc j) (suc k) (omega (arith, low)) (omega (arith, within))))
  where
    by_test : (b : Bool) → in_body plan ≡ b → AllPairs (λ (stored later : Stored). stored.number < later.number) (body_of planned)
        → AllPairs (λ (stored later : Stored). stored.number < later.number) (map stored_of (cond b (plan ∷ filter in_body planned) (filter in_body planned)))
    by_test true is rest = AllPairs-cons (λ (stored later : Stored). stored.number < later.number) (stored_of plan) (body_of planned) (λ k d within.
        let has = to_plan planned (slice_index_or (body_of planned) k d) (Contains-get_or (body_of planned) k d within) in
        subst (λ n. plan.part.number < n) has.3 (rising zero (suc has.0) (omega arith) (omega (arith, has.1)) (body_kind plan.part.kind is) has.2)) rest
    by_test false is rest = rest

pub body_is : (planned : List Planned) → IsRisingPlan planned → IsBodyOf planned (body_of planned)
body_is planned rising = record {
  members = λ stored. (to_plan planned stored, from_plan planned stored);
  rising = rises planned rising;
}
