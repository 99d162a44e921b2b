use Rattle.std.proofs.Common.{refl, inl, inr}
use Rattle.volume_compare.proofs.counting.bytes_of.Goals as goal

pub returns-in-None-clause-count : goal.returns-in-None-clause-count
returns-in-None-clause-count g c = λ honest. inl (refl, inr (rw c.in-None.is at (c.in_ok-content.ensures.content honest)))
