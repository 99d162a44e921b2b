use Rattle.std.proofs.Common.{◌≢◌, ◌<◌, ℕ}
use Rattle.image_readings.specs.Ranking.{finding_at}
use Rattle.image_readings.specs.declared.reading.Found.{Found}
use Rattle.image_readings.specs.declared.reading.Finding.TheVariants.{Volume}
use Rattle.image_readings.proofs.ranking.has_volume.Given as goal

abbrev pub invariant-loop-reading : goal.invariant-loop-reading
invariant-loop-reading l = (number : ℕ) (found : Found) → number < l.reading-index → finding_at l.readings number ≢ Volume found
