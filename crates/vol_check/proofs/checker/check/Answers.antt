use Rattle.vol_check.proofs.Verdict.{when_accepted}
use Rattle.vol_check.proofs.checker.check.Goals as goal

pub returns-in-Ok-Accepted-clause-lost : goal.returns-in-Ok-Accepted-clause-lost
returns-in-Ok-Accepted-clause-lost g c = λ honest.
    when_accepted _ c.in-Ok-Accepted.field-0 c.in-Ok-Accepted.checked c.in-Ok-Accepted.field-0-is (c.in-Ok-Accepted.ensures.lost honest)

pub returns-in-Ok-Accepted-clause-told : goal.returns-in-Ok-Accepted-clause-told
returns-in-Ok-Accepted-clause-told g c =
    when_accepted _ c.in-Ok-Accepted.field-0 c.in-Ok-Accepted.checked c.in-Ok-Accepted.field-0-is c.in-Ok-Accepted.ensures.told

pub returns-in-Ok-Accepted-clause-accepted : goal.returns-in-Ok-Accepted-clause-accepted
returns-in-Ok-Accepted-clause-accepted g c = λ honest.
    when_accepted _ c.in-Ok-Accepted.field-0 c.in-Ok-Accepted.checked c.in-Ok-Accepted.field-0-is (c.in-Ok-Accepted.ensures.accepted honest)

pub returns-in-Ok-Accepted-clause-parts : goal.returns-in-Ok-Accepted-clause-parts
returns-in-Ok-Accepted-clause-parts g c = λ honest.
    when_accepted _ c.in-Ok-Accepted.field-0 c.in-Ok-Accepted.checked c.in-Ok-Accepted.field-0-is (c.in-Ok-Accepted.ensures.parts honest)
