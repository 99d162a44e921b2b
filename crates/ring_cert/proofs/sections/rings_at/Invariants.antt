use Rattle.std.proofs.Common.{length}
use Rattle.ring_cert.specs.Certificates.{IsRingTold, ring_line}
use Rattle.ring_cert.proofs.Runs.{HasRun}
use Rattle.ring_cert.proofs.sections.rings_at.Given as goal

abbrev pub invariant-loop-rings : goal.invariant-loop-rings
invariant-loop-rings g l = HasRun IsRingTold ring_line l.bytes l.rings.items l.rest

abbrev pub decreases-loop-rings : goal.decreases-loop-rings
decreases-loop-rings g l = length l.rest
