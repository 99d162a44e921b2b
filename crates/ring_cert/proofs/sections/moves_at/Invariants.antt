use Rattle.std.proofs.Common.{length}
use Rattle.ring_cert.specs.Certificates.{IsMoveTold, move_line}
use Rattle.ring_cert.proofs.Runs.{HasRun}
use Rattle.ring_cert.proofs.sections.moves_at.Given as goal

abbrev pub invariant-loop-part : goal.invariant-loop-part
invariant-loop-part g l = HasRun IsMoveTold move_line l.bytes l.moves.items l.rest

abbrev pub decreases-loop-part : goal.decreases-loop-part
decreases-loop-part g l = length l.rest
