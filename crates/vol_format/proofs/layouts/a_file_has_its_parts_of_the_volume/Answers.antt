use Rattle.vol_format.proofs.OneFile.{one_files_parts}
use Rattle.vol_format.proofs.layouts.a_file_has_its_parts_of_the_volume.Goals as goal

pub returns : goal.returns
returns g c =
    let format = c.args.format.now in
    λ directory store all entry parts are.
    one_files_parts (g.F.Format.meaning format) directory store all are entry parts
