-- A store in which the units of a plan stand, and nothing else has changed, is the one with the plan written.
use Rattle.std.specs.Prelude.{◌≡◌, ◌≢◌, ◌<◌, ℕ, zero, suc, List, [], ◌∷◌, length}
use Rattle.std.proofs.Common.{sym, ◌∙◌, ap, arith, inl, inr}
use Rattle.std.proofs.lemmas.Bool.{cases_eq}
use Rattle.std.proofs.lemmas.List.{get_or-set_same, get_or-set_other, ext_get_or}
use Rattle.a2_device.specs.Device.{unit_at}
use Rattle.vol_laws.specs.Built.{Planned, place_of, unit_of, HasPlanWritten, written}
use Rattle.vol_laws.proofs.Writing.{length-written}

module _ (store new : List (List ℕ)) (place : ℕ) (inside : place < length store) where
  abbrev IsOther : List Planned → Type 0
  IsOther planned = (k : ℕ) → k < length planned → place ≢ place_of planned k

  unit_there : (planned : List Planned) → ((k : ℕ) → k < length planned → place_of planned k ≡ place → unit_at new place ≡ unit_of planned k)
      → (IsOther planned → unit_at new place ≡ unit_at store place) → unit_at (written store planned) place ≡ unit_at new place
  unit_there [] has other = sym (other (λ k within. absurd (omega (arith, within))))
  unit_there (plan ∷ planned) has other = elim (cases_eq place plan.part.place) [
    | inl here ↦
        ap (unit_at (written store (plan ∷ planned))) here
        ∙ get_or-set_same (written store planned) plan.part.place plan.unit [] (omega (arith, here, inside, length-written store planned))
        ∙ sym (has zero (omega arith) (sym here))
    | inr differ ↦
        get_or-set_other (written store planned) plan.part.place place plan.unit [] differ
        ∙ unit_there planned (λ k within. has (suc k) (omega (arith, within))) (λ apart. other (both differ apart))
  ]
    where
      both : place ≢ plan.part.place → IsOther planned → IsOther (plan ∷ planned)
      both differ apart zero within = differ
      both differ apart (suc k) within = apart k (omega (arith, within))

pub written_is : (store new : List (List ℕ)) (planned : List Planned) → HasPlanWritten planned store new → new ≡ written store planned
written_is store new planned is = ext_get_or [] new (written store planned) (is.size ∙ sym (length-written store planned)) (λ place within.
    sym (unit_there store new place (omega (arith, within, is.size)) planned
    (λ k below here. ap (unit_at new) (sym here) ∙ is.held k below) (λ apart. is.others place apart)))
