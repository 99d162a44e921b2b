use Rattle.std.proofs.Common.{take, All}
use Rattle.applesoft.specs.Program.{IsCode}
use Rattle.applesoft.proofs.listing.body_len.Given as goal

abbrev pub invariant-loop-index : goal.invariant-loop-index
invariant-loop-index l = All IsCode (take l.index l.bytes)
