-- What was looked for is there, or it is not.
use Rattle.std.proofs.Common.{◌≡◌, Option, Some, None, subst}
use Rattle.std.specs.Prelude.{MatchOption}

pub not_there : {X : Type 0} (found : Option X) (P : Type 0) (Q : X → Type 0) → found ≡ None → MatchOption found P Q → P
not_there {X} found P Q is cases = subst (λ (f : Option X). MatchOption f P Q) is cases

pub there : {X : Type 0} (found : Option X) (x : X) (P : Type 0) (Q : X → Type 0) → found ≡ Some x → MatchOption found P Q → Q x
there {X} found x P Q is cases = subst (λ (f : Option X). MatchOption f P Q) is cases
