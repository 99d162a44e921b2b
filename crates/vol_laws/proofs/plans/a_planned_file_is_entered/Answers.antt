use Rattle.vol_laws.proofs.NewFiles.{planned_entered, planned_listed, planned_lost}
use Rattle.vol_laws.proofs.plans.a_planned_file_is_entered.Goals as goal

pub returns-clause-parts : goal.returns-clause-parts
returns-clause-parts g c =
    let format = c.args.format.now in
    λ free few at entry old new planned file within accepted rest described is.
    planned_entered (g.F.Format.meaning format) (g.met.F.Format.readable format) (g.met.F.WritableFormat.movable format) free
    few at entry old new planned file within accepted rest described is

pub returns-clause-list : goal.returns-clause-list
returns-clause-list g c =
    let format = c.args.format.now in
    λ free few at entry old new planned file others within accepted rest described is has.
    planned_listed (g.F.Format.meaning format) (g.met.F.Format.readable format) (g.met.F.WritableFormat.movable format) free
    few at entry old new planned file within accepted rest described is others has

pub returns-clause-lost : goal.returns-clause-lost
returns-clause-lost g c =
    let format = c.args.format.now in
    λ free few at entry old new planned file place within accepted rest described is.
    planned_lost (g.F.Format.meaning format) (g.met.F.Format.readable format) (g.met.F.WritableFormat.movable format) free
    few at entry old new planned file within accepted rest described is place
