use Rattle.vol_laws.proofs.Copies.{copy_kept}
use Rattle.vol_laws.proofs.laws.a_copy_keeps_the_files.Goals as goal

pub returns : goal.returns
returns g c =
    let format = c.args.format.now in
    λ directory store place unit accepted available unreached.
    copy_kept (g.F.Format.meaning format) directory store place unit unreached (g.met.F.WritableFormat.movable format) accepted available
