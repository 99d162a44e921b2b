-- What the checker told of the lost places is told on.
use Rattle.std.specs.Prelude.{◌≡◌, ◌↔◌, ℕ, List, Result, Ok, Err, IfOk, Contains}
use Rattle.std.proofs.Common.{subst, sym}
use Rattle.vol_check.specs.Told.{told_of, volume_of}
use Rattle.vol_check.specs.declared.checked.Checked.{Checked}
use Rattle.vol_mover.specs.Opening.{Tells}
use Rattle.vol_mover.specs.declared.opening.Opening.{Opening}

pub lost_told : {V A E : Type 0} (result : Result (Opening V A) E) (checked : Checked V A) (IsLost : V → ℕ → Type 0)
    → IfOk result (λ opening. opening.volume ≡ volume_of checked) → IfOk result (λ opening. Tells (told_of checked) opening)
    → ((place : ℕ) → Contains (told_of checked).lost place ↔ IsLost (volume_of checked) place)
    → IfOk result (λ opening. (place : ℕ) → Contains opening.lost.items place ↔ IsLost opening.volume place)
lost_told (Ok opening) checked IsLost same tells told = λ place.
    subst (λ v. Contains opening.lost.items place ↔ IsLost v place) (sym same)
    (subst (λ (lost : List ℕ). Contains lost place ↔ IsLost (volume_of checked) place) (sym tells.lost) (told place))
lost_told (Err e) checked IsLost same tells told = tt
