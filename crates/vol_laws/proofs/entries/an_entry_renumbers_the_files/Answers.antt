use Rattle.vol_laws.proofs.Entering.{entered, left}
use Rattle.vol_laws.proofs.entries.an_entry_renumbers_the_files.Goals as goal

pub returns-clause-enters : goal.returns-clause-enters
returns-clause-enters g c =
    let format = c.args.format.now in
    λ free few at entry old new within accepted rest described file.
    entered (g.F.Format.meaning format) (g.met.F.Format.readable format) (g.met.F.WritableFormat.movable format) free
    few at entry old new within rest accepted described file

pub returns-clause-leaves : goal.returns-clause-leaves
returns-clause-leaves g c =
    let format = c.args.format.now in
    λ free few at entry old new within takes accepted rest described.
    left (g.F.Format.meaning format) (g.met.F.Format.readable format) (g.met.F.WritableFormat.movable format) free
    few at entry old new within rest accepted described takes
