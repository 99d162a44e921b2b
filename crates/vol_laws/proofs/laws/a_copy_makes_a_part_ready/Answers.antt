use Rattle.vol_laws.proofs.Readying.{ready_after_copy}
use Rattle.vol_laws.proofs.laws.a_copy_makes_a_part_ready.Goals as goal

pub returns : goal.returns
returns g c =
    let format = c.args.format.now in
    λ directory store part holder place accepted lost held within whole.
    ready_after_copy (g.F.Format.meaning format) (g.met.F.Format.readable format) (g.met.F.WritableFormat.movable format) (g.met.F.WritableFormat.writable format)
    directory store part holder place accepted lost held within whole
