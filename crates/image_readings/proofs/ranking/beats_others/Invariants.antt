use Rattle.std.proofs.Common.{◌≡◌, ◌≢◌, ◌<◌, ℕ, true}
use Rattle.image_readings.specs.Ranking.{finding_at, yields}
use Rattle.image_readings.proofs.ranking.beats_others.Given as goal

abbrev pub invariant-loop-other : goal.invariant-loop-other
invariant-loop-other l = (other : ℕ) → other < l.other → other ≢ l.best → yields (finding_at l.readings other) l.found ≡ true
