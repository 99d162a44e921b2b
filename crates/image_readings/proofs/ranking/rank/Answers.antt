use Rattle.std.proofs.Common.{arith}
use Rattle.image_readings.proofs.ranking.rank.Goals as goal

pub returns-then-has_volume : goal.returns-then-has_volume
returns-then-has_volume c = (c.has_volume.ensures.0 c.if-has_volume.true, λ number within. c.loop-number.invariant number (omega (arith, within, c.loop-number-test.false)))
