-- What is known where a function returns.
use Rattle.std.proofs.Common.{◌≡◌, ◌↔◌, sym, ◌∙◌, Bool, false, Option, Some, None, IfNone, IsTrue}
use Rattle.std.proofs.lemmas.Bool.{false≢true}

pub on_none : {X : Type 0} {P : Type 0} (result : Option X) → P → IfNone result P
on_none None holds = holds
on_none (Some x) holds = tt

-- what a test that fails says
pub refuted : {P : Type 0} (test : Bool) → (IsTrue test ↔ P) → test ≡ false → ¬ P
refuted test is no' holds = false≢true (sym no' ∙ is.1 holds)

pub never : {P : Type 0} → ¬ P → (IsTrue false ↔ P)
never no' = (λ e. absurd (false≢true e), λ holds. absurd (no' holds))
