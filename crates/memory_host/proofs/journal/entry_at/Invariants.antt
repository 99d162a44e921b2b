use Rattle.std.proofs.Common.{take}
use Rattle.memory_host.specs.Journal.{IsFound}
use Rattle.memory_host.proofs.journal.entry_at.Given as goal

abbrev pub invariant-loop-item : goal.invariant-loop-item
invariant-loop-item l = IsFound (take l.item-index l.items) l.path l.found
