use Rattle.std.proofs.Common.{◌∙◌, ◌*◌, ◌+◌, Some, ap, arith, length, set}
use Rattle.a2_device.specs.Order.{blocks_of}
use Rattle.a2_image.specs.Image.{IsOfDisk}
use Rattle.a2_image.proofs.BlockLemmas.{HasBlock-both_halves, blocks-both_halves}
use Rattle.a2_media.proofs.units.write_lent_block.Goals as goal

pub returns-then-write_lent-clause-written : goal.returns-then-write_lent-clause-written
returns-then-write_lent-clause-written g c = λ is.
    let old = c.args.image.now in
    let new = c.write_lent-then-write_lent.new.image in
    let disk : IsOfDisk old = omega (arith, c.blocks-2.ensures.value, c.if-blocks-ne-DISK_BLOCKS.false) in
    let first = c.write_lent.ensures in
    let second = c.write_lent-then-write_lent.ensures in
    let at = c.sectors_of_block-track in
    blocks-both_halves old c.write_lent.new.image c.args.number at.result.0 at.result.1 at.result.2 c.args.unit.now disk (c.blocks-2.ensures.disk disk).count
    c.requires.number at.ensures.front at.ensures.rear
    (first.written c.if-write_lent.true ∙ ap (λ half. set old.sectors (16 * at.result.0 + at.result.1) (Some half)) c.split_at.ensures.front)
    new (ap (blocks_of new.order) (second.long ∙ first.long) ∙ ap (λ order. blocks_of order (length old.bytes)) (second.order ∙ first.order))
    (second.written is ∙ ap (λ half. set c.write_lent.new.image.sectors (16 * at.result.0 + at.result.2) (Some half)) c.split_at.ensures.back)

pub returns-then-write_lent-clause-there : goal.returns-then-write_lent-clause-there
returns-then-write_lent-clause-there g c = λ is.
    let old = c.args.image.now in
    let disk : IsOfDisk old = omega (arith, c.blocks-2.ensures.value, c.if-blocks-ne-DISK_BLOCKS.false) in
    let first = c.write_lent.ensures in
    let at = c.sectors_of_block-track in
    HasBlock-both_halves old c.write_lent.new.image c.args.number at.result.0 at.result.1 at.result.2 c.args.unit.now disk (c.blocks-2.ensures.disk disk).count
    c.requires.number at.ensures.front at.ensures.rear
    (first.written c.if-write_lent.true ∙ ap (λ half. set old.sectors (16 * at.result.0 + at.result.1) (Some half)) c.split_at.ensures.front)
    (first.there c.if-write_lent.true) (c.write_lent-then-write_lent.ensures.there is)
