use Rattle.std.proofs.Common.{◌+◌, ◌*◌, length, arith}
use Rattle.std.proofs.lemmas.Slice.{drop-put_mid}
use Rattle.test_volumes.proofs.blocks.put_in_block.Goals as goal

pub returns-clause-behind : goal.returns-clause-behind
returns-clause-behind c =
    let at = 512 * c.args.block + c.args.offset in
    drop-put_mid at _ c.args.image.now c.copy_from_slice.new.self (at + length c.args.bytes.now) (omega arith) (omega arith) (omega arith)
