use Rattle.std.proofs.Common.{◌≡◌, ◌++◌, take}
use Rattle.std.specs.List.{flat_map}
use Rattle.ring_cert.specs.Certificates.{word}
use Rattle.ring_cert.proofs.printing.push_line.Given as goal

abbrev pub invariant-loop-number : goal.invariant-loop-number
invariant-loop-number g l = l.text.items ≡ (l.fn.text.items ++ l.name) ++ flat_map word (take l.number-index l.numbers)
