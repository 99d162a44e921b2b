use Rattle.std.proofs.Common.{refl, arith}
use Rattle.a2_nibble.proofs.AnswerLemmas.{no_sector}
use Rattle.a2_nibble.proofs.sector.field_of.Goals as goal

pub returns-in-Some-clause-none : goal.returns-in-Some-clause-none
returns-in-Some-clause-none c = (
  λ e. let never : ⊥ = cc in absurd never,
  λ h. absurd (no_sector c.args.nibbles.now c.args.track c.args.sector h.2 _ _ c.in-Some.ensures.finds.found.2),
)

pub returns-in-None-clause-none : goal.returns-in-None-clause-none
returns-in-None-clause-none c = (
  λ _. (omega arith, omega arith, λ content h. c.in-None.ensures.finds.none (omega arith) (omega arith) h.volume h.data_at h.field),
  λ _. refl,
)
