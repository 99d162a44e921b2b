use Rattle.vol_laws.proofs.Losing.{used_lost, released_lost}
use Rattle.vol_laws.proofs.lost.a_mark_loses_or_finds_one_place.Goals as goal

pub returns-clause-used : goal.returns-clause-used
returns-clause-used g c =
    let format = c.args.format.now in
    used_lost (g.F.Format.meaning format)

pub returns-clause-released : goal.returns-clause-released
returns-clause-released g c =
    let format = c.args.format.now in
    released_lost (g.F.Format.meaning format)
