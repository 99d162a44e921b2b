use Rattle.vol_laws.proofs.Losing.{left_lost}
use Rattle.vol_laws.proofs.lost.a_moved_part_leaves_its_place.Goals as goal

pub returns : goal.returns
returns g c =
    let format = c.args.format.now in
    left_lost (g.F.Format.meaning format) (g.met.F.Format.readable format) (g.met.F.WritableFormat.movable format) (g.met.F.WritableFormat.writable format)
