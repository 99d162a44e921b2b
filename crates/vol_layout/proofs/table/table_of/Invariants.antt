use Rattle.std.proofs.Common.{take}
use Rattle.vol_layout.specs.Table.{IsTableOf}
use Rattle.vol_layout.proofs.table.table_of.Given as goal

abbrev pub invariant-loop-part : goal.invariant-loop-part
invariant-loop-part g l = IsTableOf (take l.part l.at) l.places l.table.items
