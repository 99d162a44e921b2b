-- What a fault that is told, or was told before, leaves.
use Rattle.std.proofs.Common.{◌≡◌, ◌≢◌, Bool, true, false, List, [], ◌∷◌, ◌++◌, length, refl, ap}
use Rattle.std.specs.Prelude.{◌==◌, not, ◌&&◌, if◌then◌else◌}
use Rattle.a2_device.specs.declared.fault.Fault.{Fault}
use Rattle.vol_check.specs.Known.{is_known, knowing}
use Rattle.vol_check.specs.declared.known.Known.{Known}
use Rattle.vol_check.specs.Walk.{Lists, told}

-- What holds of the walk as it was, where some fault was told, and of it with one fault more, holds of it once the fault is told.
pub when_told : (P : Lists → Type 0) (fault : Fault) (walk : Lists) → (walk.faults ≢ [] → P walk)
    → ((known : List Known) → P (record walk { faults = walk.faults ++ fault ∷ []; known = known })) → P (told fault walk)
when_told P fault walk before now = by_tests (length walk.faults == 0) (is_known walk.known fault) refl
  where
    by_tests : (none same : Bool) → (length walk.faults == 0) ≡ none
        → P (if not none && same then walk else (record walk { faults = walk.faults ++ fault ∷ []; known = knowing walk.known fault }))
    by_tests true same is = now (knowing walk.known fault)
    by_tests false true is = before (λ none. some_faults (ap (λ (faults : List Fault). length faults == 0) none) is)
      where
        some_faults : (length walk.faults == 0) ≡ true → (length walk.faults == 0) ≡ false → ⊥
        some_faults one other = cc
    by_tests false false is = now (knowing walk.known fault)
