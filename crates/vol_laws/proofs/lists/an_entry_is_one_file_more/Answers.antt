use Rattle.vol_laws.proofs.FileLists.{files_entered}
use Rattle.vol_laws.proofs.WholeLists.{files_without, volume_entered, volume_left}
use Rattle.vol_laws.proofs.lists.an_entry_is_one_file_more.Goals as goal

pub returns-clause-enters : goal.returns-clause-enters
returns-clause-enters g c =
    let format = c.args.format.now in
    λ free few at entry old new file others within is_of_file accepted rest described is are.
    files_entered (g.F.Format.meaning format) (g.met.F.Format.readable format) (g.met.F.WritableFormat.movable format) free
    few at entry is_of_file within old new file others accepted rest described is are

pub returns-clause-leaves : goal.returns-clause-leaves
returns-clause-leaves g c =
    let format = c.args.format.now in
    λ free few at entry old new all within is_of_file takes accepted rest described are.
    files_without (g.F.Format.meaning format) (g.met.F.Format.readable format) (g.met.F.WritableFormat.movable format) free
    few at entry within is_of_file old new all takes accepted rest described are

pub returns-clause-gains : goal.returns-clause-gains
returns-clause-gains g c =
    let format = c.args.format.now in
    λ free few at entry old new file others within is_of_file accepted rest described is_new is has.
    volume_entered (g.F.Format.meaning format) (g.met.F.Format.readable format) (g.met.F.WritableFormat.movable format) free
    few at entry within is_of_file old new file others accepted rest described is_new is has

pub returns-clause-loses : goal.returns-clause-loses
returns-clause-loses g c =
    let format = c.args.format.now in
    λ free few at entry old new all within is_of_file takes accepted rest described has.
    volume_left (g.F.Format.meaning format) (g.met.F.Format.readable format) (g.met.F.WritableFormat.movable format) free
    few at entry within is_of_file old new all takes accepted rest described has
