use Rattle.std.proofs.Common.{IfNone, Option, Some, None}
use Rattle.apple_text.proofs.taken.first_byte.Goals as goal

on_none : {X : Type 0} {P : Type 0} (result : Option X) → P → IfNone result P
on_none None holds = holds
on_none (Some x) holds = tt

pub returns-in_err-code-clause-none : goal.returns-in_err-code-clause-none
returns-in_err-code-clause-none c =
    on_none c.from_residual.result (λ byte rest first. c.in_err-code.ensures.none _ rest first.begins)
