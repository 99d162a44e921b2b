use Rattle.std.proofs.Common.{◌≤◌, ◌-◌, length}
use Rattle.vol_check.proofs.standing.count_available.Given as goal

abbrev pub invariant-loop-count : goal.invariant-loop-count
invariant-loop-count g l = l.count ≤ length (g.F.Format.directory l.format l.volume).available

abbrev pub decreases-loop-count : goal.decreases-loop-count
decreases-loop-count g l = length (g.F.Format.directory l.format l.volume).available - l.count
