use Rattle.std.proofs.Common.{ℕ, List, ◌++◌, take}
use Rattle.ring_cert.specs.Seen.{HasMet}
use Rattle.ring_cert.proofs.seen.Seen.insert_all.Given as goal

abbrev pub invariant-loop-number : goal.invariant-loop-number
invariant-loop-number g l = (front : List ℕ) → HasMet l.fn.self front → HasMet l.self (front ++ take l.number-index l.numbers)
