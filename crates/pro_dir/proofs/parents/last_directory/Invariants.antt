use Rattle.std.proofs.Common.{◌≡◌}
use Rattle.pro_dir.specs.Parents.{last_directory}
use Rattle.pro_dir.proofs.parents.last_directory.Given as goal

abbrev pub invariant-loop-number : goal.invariant-loop-number
invariant-loop-number l = last_directory l.entries l.count l.key ≡ last_directory l.entries l.number l.key
