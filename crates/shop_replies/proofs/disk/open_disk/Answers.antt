use Rattle.std.proofs.Common.{◌∙◌, ap₂, sym, refl, length, arith, tests}
use Rattle.a2_device.specs.Order.{blocks_of}
use Rattle.shop_replies.proofs.Disks.{blocks_of-disk, disk_length, refuses_disk}
use Rattle.shop_replies.proofs.disk.open_disk.Goals as goal

pub returns-in-Err-clause-refused : goal.returns-in-Err-clause-refused
returns-in-Err-clause-refused c = refuses_disk c.args.order c.args.bytes.items _ c.in-Err.ensures.refused

pub returns-then-blocks-ne-DISK_BLOCKS-clause-refused : goal.returns-then-blocks-ne-DISK_BLOCKS-clause-refused
returns-then-blocks-ne-DISK_BLOCKS-clause-refused c = λ long.
    let blocks = ap₂ (λ order bytes. blocks_of order (length bytes)) c.in-Ok.ensures.order c.in-Ok.ensures.bytes ∙ blocks_of-disk c.args.order (length c.args.bytes.items) long in
    omega (arith, tests, c.blocks-2.ensures.value, blocks, c.if-blocks-ne-DISK_BLOCKS.true)

pub returns-clause-takes : goal.returns-clause-takes
returns-clause-takes c = λ ok.
    let blocks = sym (ap₂ (λ order bytes. blocks_of order (length bytes)) c.in-Ok.ensures.order c.in-Ok.ensures.bytes) ∙ sym c.blocks-2.ensures.value in
    disk_length c.args.order (length c.args.bytes.items) (c.in-Ok.ensures.takes refl) (omega (arith, tests, blocks, c.if-blocks-ne-DISK_BLOCKS.false))
