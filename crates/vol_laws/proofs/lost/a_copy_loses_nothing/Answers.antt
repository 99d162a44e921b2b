use Rattle.vol_laws.proofs.Losing.{copy_lost}
use Rattle.vol_laws.proofs.lost.a_copy_loses_nothing.Goals as goal

pub returns : goal.returns
returns g c =
    let format = c.args.format.now in
    copy_lost (g.F.Format.meaning format)
