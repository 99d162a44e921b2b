use Rattle.std.proofs.Common.{arith, refl, subst}
use Rattle.std.proofs.lemmas.List.{take_all}
use Rattle.pro_format.specs.Tables.{IsMarked}
use Rattle.pro_format.proofs.Tables.{unmarked, marked_more}
use Rattle.pro_format.proofs.places.with_blocks.Goals as goal

pub loop-block-init : goal.loop-block-init
loop-block-init g c = unmarked c.args.blocks.now c.args.table.items

pub loop-block-preserved : goal.loop-block-preserved
loop-block-preserved g c =
    marked_more c.args.blocks.now c.args.table.items c.loop-block.table.items _ c.loop-block.block-index _ c.loop-block-test.true refl
    (c.requires c.loop-block.block-index 0 c.loop-block-test.true) refl c.loop-block.invariant

pub returns : goal.returns
returns g c = subst (λ bs. IsMarked bs c.args.table.items c.loop-block.table.items)
    (take_all c.loop-block.block-index c.args.blocks.now (omega (arith, c.loop-block-test.false))) c.loop-block.invariant
