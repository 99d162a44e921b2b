use Rattle.new_volumes.specs.Filling.{Filled}
use Rattle.new_volumes.specs.ProUnits.{IsEmptyBlock}
use Rattle.new_volumes.proofs.pro.write_system.Given as goal

abbrev pub invariant-loop-block : goal.invariant-loop-block
invariant-loop-block l = Filled 512 (IsEmptyBlock l.name l.date.0 l.blocks) 2 l.block l.initial.image l.image
