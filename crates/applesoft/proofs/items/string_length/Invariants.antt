use Rattle.std.proofs.Common.{◌≡◌, ◌+◌, drop}
use Rattle.applesoft.specs.Scan.{string_length}
use Rattle.applesoft.proofs.items.string_length.Given as goal

abbrev pub invariant-loop-index : goal.invariant-loop-index
invariant-loop-index l = string_length l.codes ≡ l.index + string_length (drop l.index l.codes)
