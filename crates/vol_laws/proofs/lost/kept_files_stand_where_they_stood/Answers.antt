use Rattle.vol_laws.proofs.Losing.{kept_lost}
use Rattle.vol_laws.proofs.Standing.{kept_stands}
use Rattle.vol_laws.proofs.lost.kept_files_stand_where_they_stood.Goals as goal

pub returns-clause-layout : goal.returns-clause-layout
returns-clause-layout g c =
    let format = c.args.format.now in
    kept_stands (g.F.Format.meaning format)

pub returns-clause-lost : goal.returns-clause-lost
returns-clause-lost g c =
    let format = c.args.format.now in
    λ before after old new place kept. kept_lost (g.F.Format.meaning format) before after old new kept place
