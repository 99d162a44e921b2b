use Rattle.vol_laws.proofs.Marks.{marks_kept}
use Rattle.vol_laws.proofs.laws.many_marks_keep_the_files.Goals as goal

pub returns : goal.returns
returns g c =
    let format = c.args.format.now in
    λ directory store at marks accepted full can.
    marks_kept (g.F.Format.meaning format) (g.met.F.Format.readable format) (g.met.F.WritableFormat.movable format) (g.met.F.WritableFormat.writable format)
    at marks directory store accepted full can
