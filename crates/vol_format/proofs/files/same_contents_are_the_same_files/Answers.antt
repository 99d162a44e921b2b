use Rattle.vol_format.proofs.Kept.{same_files}
use Rattle.vol_format.proofs.files.same_contents_are_the_same_files.Goals as goal

pub returns : goal.returns
returns g c =
    let format = c.args.format.now in
    same_files (g.F.Format.meaning format) (g.met.F.WritableFormat.movable format)
