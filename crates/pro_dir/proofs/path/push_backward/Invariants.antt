use Rattle.std.proofs.Common.{◌≡◌, ◌++◌, take, reverse}
use Rattle.pro_dir.proofs.path.push_backward.Given as goal

abbrev pub invariant-loop-at : goal.invariant-loop-at
invariant-loop-at g l = l.text.items ≡ l.fn.text.items ++ take l.at (reverse l.name)
