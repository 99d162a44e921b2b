use Rattle.std.proofs.Common.{arith}
use Rattle.image_readings.proofs.ranking.has_volume.Goals as goal

pub returns : goal.returns
returns c = (λ yes. cc, λ has. absurd (c.loop-reading.invariant has.0 has.1 (omega (arith, has.2, c.loop-reading-test.false)) has.3))
