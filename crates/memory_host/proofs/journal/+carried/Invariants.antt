use Rattle.std.proofs.Common.{length}
use Rattle.memory_host.proofs.journal.+carried.Given as goal

abbrev pub decreases-carried : goal.decreases-carried
decreases-carried l = length l.pieces.now
