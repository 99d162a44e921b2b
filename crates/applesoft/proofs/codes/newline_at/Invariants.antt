use Rattle.std.proofs.Common.{◌≢◌, take, All}
use Rattle.applesoft.proofs.codes.newline_at.Given as goal

abbrev pub invariant-loop-index : goal.invariant-loop-index
invariant-loop-index l = All (λ c. c ≢ 10) (take l.index l.text)
