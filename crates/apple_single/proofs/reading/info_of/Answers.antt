use Rattle.std.proofs.Common.{arith, refl}
use Rattle.apple_single.proofs.Infos.{is_info}
use Rattle.apple_single.proofs.reading.info_of.Goals as goal

pub returns-in-0-clause-some : goal.returns-in-0-clause-some
returns-in-0-clause-some c =
    is_info c.args.bytes.now c.from_be_bytes.result _ c.from_be_bytes-in-0.result c.in-0.len_at_least
    (λ k. (c.type_inv.bytes k).fits)
    (omega arith) (omega arith) (omega arith) c.from_be_bytes.ensures refl c.from_be_bytes-in-0.ensures
