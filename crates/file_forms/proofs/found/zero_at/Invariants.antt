use Rattle.std.proofs.Common.{◌≡◌, ◌+◌, drop}
use Rattle.file_forms.specs.Found.{zero_at}
use Rattle.file_forms.proofs.found.zero_at.Given as goal

abbrev pub invariant-loop-index : goal.invariant-loop-index
invariant-loop-index l = zero_at l.bytes ≡ l.index + zero_at (drop l.index l.bytes)
