use Rattle.std.proofs.Common.{◌≡◌, ◌++◌, ◌*◌, length, replicate}
use Rattle.file_cmds.proofs.text.add_zeros.Given as goal

abbrev pub invariant-loop : goal.invariant-loop
invariant-loop g l = l.text.items ≡ l.fn.text.items ++ replicate (l.counter * length l.zeros) 0
