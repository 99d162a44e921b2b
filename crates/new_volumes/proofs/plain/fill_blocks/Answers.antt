use Rattle.std.proofs.Common.{◌∙◌, ◌*◌, ap, arith, length, sym}
use Rattle.new_volumes.proofs.Plains.{blocks_plain}
use Rattle.new_volumes.proofs.Units.{length-zeros}
use Rattle.new_volumes.specs.Fields.{zeros}
use Rattle.new_volumes.proofs.plain.fill_blocks.Goals as goal

pub returns-clause-made : goal.returns-clause-made
returns-clause-made c =
    blocks_plain c.args.blocks c.args.name.now c.args.date.0 c.args.order _ c.args.volume.now c.copy_front.new.volume c.write_system.new.image c.requires.blocks
    (omega (arith, c.ranges.blocks)) c.requires.zeroed c.in_ok-copy_front.ensures.copied c.write_system.ensures

pub copy_front-requires-clause-room : goal.copy_front-requires-clause-room
copy_front-requires-clause-room c =
    let long = ap length c.requires.zeroed ∙ length-zeros (512 * c.args.blocks) in
    omega (arith, long, c.requires.blocks)

pub copy_front-requires-clause-zeroed : goal.copy_front-requires-clause-zeroed
copy_front-requires-clause-zeroed c =
    let long = ap length c.requires.zeroed ∙ length-zeros (512 * c.args.blocks) in
    c.requires.zeroed ∙ ap zeros (sym long)

pub write_system-requires-clause-image : goal.write_system-requires-clause-image
write_system-requires-clause-image c = c.copy_front.auto.volume ∙ ap length c.requires.zeroed ∙ length-zeros (512 * c.args.blocks)
