-- What a reading of the words gives: what they say, or why they say nothing that is taken.
use Rattle.std.specs.Prelude.{◌≡◌, ◌⊎◌, Option, Some, None, Result, Ok, Err}
use Rattle.shop_words.specs.declared.misfit.Misfit.{Misfit}
use Rattle.shop_words.specs.declared.misfit.Misfit.TheVariants.{Memory}

-- what is said, as contracts see it; without it there is no memory, or nothing that is taken is said
abbrev pub Gives : {T V : Type 0} → (T → V) → Option V → Result T Misfit → Type 0
Gives view said (Ok given) = said ≡ Some (view given)
Gives view said (Err misfit) = (misfit ≡ Memory) ⊎ (said ≡ None)

-- two things that are said, where both are
abbrev pub both : {A B : Type 0} → Option A → Option B → Option (A × B)
both (Some a) (Some b) = Some (a, b)
both _ _ = None
