use Rattle.vol_format.proofs.Existence.{files_exist}
use Rattle.vol_format.proofs.files.a_volume_has_its_files.Goals as goal

pub returns : goal.returns
returns g c =
    let format = c.args.format.now in
    λ directory store parts accepted are.
    files_exist (g.F.Format.meaning format) (g.met.F.Format.readable format) directory store parts are accepted
