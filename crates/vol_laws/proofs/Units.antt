-- The units of a plan, written one after another to places at which no part stands.
use Rattle.std.specs.Prelude.{◌≢◌, ◌<◌, ℕ, zero, suc, List, [], ◌∷◌, length, map, take, slice_set, Contains}
use Rattle.std.proofs.Common.{sym, ◌∙◌, arith}
use Rattle.std.proofs.lemmas.List.{get_or-set_same, length-set}
use Rattle.std.proofs.lemmas.List.Elements.{All-map, All-from_get_or}
use Rattle.vol_format.specs.Accepted.{IsAccepted}
use Rattle.vol_format.specs.Directory.{Directory}
use Rattle.vol_format.specs.Laws.{IsMovable}
use Rattle.vol_format.specs.Meaning.{Meaning}
use Rattle.vol_laws.specs.Kept.{IsKept, IsUnreached}
use Rattle.vol_laws.proofs.Copies.{copy_kept}
use Rattle.vol_laws.proofs.Kept.{kept_same, kept_then}
use Rattle.vol_laws.specs.Built.{Planned, no_plan, place_of, AreHeld, HasPlacesOnce}
use Rattle.vol_laws.specs.Writes.{Write, store_after}
use Rattle.vol_laws.proofs.Fronts.{unit_after}
use Rattle.vol_laws.specs.Saving.{unit_write}

pub units_kept : (format : Meaning) → IsMovable format → (directory : Directory) (planned : List Planned) (m : ℕ) (store : List (List ℕ))
    → IsAccepted format directory store
    → ((k : ℕ) → k < length planned → Contains directory.available (place_of planned k) × IsUnreached format directory store (place_of planned k))
    → IsKept format directory directory store (store_after (take m (map unit_write planned)) store)
units_kept format movable directory [] zero store accepted can = kept_same format directory store accepted
units_kept format movable directory [] (suc m) store accepted can = kept_same format directory store accepted
units_kept format movable directory (plan ∷ planned) zero store accepted can = kept_same format directory store accepted
units_kept format movable directory (plan ∷ planned) (suc m) store accepted can =
    let next = slice_set store plan.part.place plan.unit in
    let one = copy_kept format directory store plan.part.place plan.unit (can 0 (omega arith)).1 movable accepted (can 0 (omega arith)).0 in
    kept_then format directory directory directory store next (store_after (take m (map unit_write planned)) next) one
    (units_kept format movable directory planned m next one.accepted (λ k inside.
    let was = can (suc k) (omega (arith, inside)) in
    (was.0, λ part reach. was.1 part ((one.parts part).1 reach))))

pub units_held : (planned : List Planned) (store : List (List ℕ)) → HasPlacesOnce planned
    → ((k : ℕ) → k < length planned → place_of planned k < length store) → AreHeld (store_after (map unit_write planned) store) planned
units_held [] store once inside k within = absurd (omega (arith, within))
units_held (plan ∷ planned) store once inside zero within =
    unit_after (map unit_write planned) (slice_set store plan.part.place plan.unit) plan.part.place
    (All-map (λ (write : Write). write.place ≢ plan.part.place) unit_write planned
    (All-from_get_or (λ (other : Planned). other.part.place ≢ plan.part.place) planned no_plan (λ i below same. once 0 (suc i) (omega arith) (omega (arith, below)) (sym same))))
    ∙ get_or-set_same store plan.part.place plan.unit [] (inside 0 within)
units_held (plan ∷ planned) store once inside (suc k) within =
    units_held planned (slice_set store plan.part.place plan.unit) (λ i j low below. once (suc i) (suc j) (omega (arith, low)) (omega (arith, below)))
    (λ i below. omega (arith, length-set {A = List ℕ} store plan.part.place plan.unit, inside (suc i) (omega (arith, below)))) k (omega (arith, within))
