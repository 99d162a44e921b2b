use Rattle.std.proofs.Common.{take}
use Rattle.pro_format.specs.Tables.{IsMarked}
use Rattle.pro_format.proofs.places.with_blocks.Given as goal

abbrev pub invariant-loop-block : goal.invariant-loop-block
invariant-loop-block g l = IsMarked (take l.block-index l.blocks) l.fn.table.items l.table.items
