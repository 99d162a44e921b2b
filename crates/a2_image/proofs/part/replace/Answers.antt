use Rattle.std.proofs.Common.{◌+◌, length, arith}
use Rattle.std.proofs.lemmas.Slice.{take-put_mid_below, drop-put_mid}
use Rattle.a2_image.proofs.PartLemmas.{part_kept}
use Rattle.a2_image.proofs.part.replace.Goals as goal

pub returns-clause-others : goal.returns-clause-others
returns-clause-others c = λ from till order apart.
    let end = c.args.start + length c.args.content.now in
    part_kept c.args.bytes.now _ c.args.start end from till order
    (take-put_mid_below c.args.start _ c.args.bytes.now c.copy_from_slice.new.self c.args.start (omega arith) (omega arith))
    (drop-put_mid c.args.start _ c.args.bytes.now c.copy_from_slice.new.self end (omega arith) (omega arith) (omega arith))
    apart
