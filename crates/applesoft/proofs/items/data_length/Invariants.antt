use Rattle.std.proofs.Common.{◌≡◌, ◌+◌, false, drop}
use Rattle.applesoft.specs.Scan.{data_length}
use Rattle.applesoft.proofs.items.data_length.Given as goal

abbrev pub invariant-loop-index : goal.invariant-loop-index
invariant-loop-index l = data_length false l.codes ≡ l.index + data_length l.quoted (drop l.index l.codes)
