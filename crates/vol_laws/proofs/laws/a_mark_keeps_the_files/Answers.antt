use Rattle.vol_laws.proofs.Marks.{mark_kept}
use Rattle.vol_laws.proofs.laws.a_mark_keeps_the_files.Goals as goal

pub returns : goal.returns
returns g c =
    let format = c.args.format.now in
    λ directory store place free accepted inside full unreached.
    mark_kept (g.F.Format.meaning format) (g.met.F.Format.readable format) (g.met.F.WritableFormat.movable format) (g.met.F.WritableFormat.writable format)
    directory store accepted place free inside full unreached
