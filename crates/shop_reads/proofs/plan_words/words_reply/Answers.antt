use Rattle.std.proofs.Common.{inl, inr}
use Rattle.shop_reads.proofs.plan_words.words_reply.Goals as goal

pub returns : goal.returns
returns g c = elim c.plan.ensures [
  | inl told ↦ inl (told.0, record { steps = c.in-Ok.steps.items; are = c.in-Ok.ensures.steps; is = told.1 })
  | inr memory ↦ inr memory
]
