use Rattle.std.proofs.Common.{length}
use Rattle.host_folders.proofs.SoFar.{SoFar}
use Rattle.host_folders.proofs.said_stem.bytes_of.Given as goal

abbrev pub invariant-loop-byte : goal.invariant-loop-byte
invariant-loop-byte g l = SoFar l.form l.text l.bytes.items l.rest

abbrev pub decreases-loop-byte : goal.decreases-loop-byte
decreases-loop-byte g l = length l.rest
