use Rattle.std.proofs.Common.{◌<◌, ℕ}
use Rattle.image_readings.specs.Ranking.{IsBest}
use Rattle.image_readings.proofs.ranking.rank.Given as goal

abbrev pub invariant-loop-number : goal.invariant-loop-number
invariant-loop-number l = (number : ℕ) → number < l.number → ¬ IsBest l.readings number
