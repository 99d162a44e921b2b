use Rattle.std.proofs.Common.{length}
use Rattle.memory_host.proofs.store.+followed.Given as goal

abbrev pub decreases-followed : goal.decreases-followed
decreases-followed l = length l.links.now
