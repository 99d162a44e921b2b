use Rattle.edit_formats.proofs.Deletions.{whole_units}
use Rattle.file_edits.proofs.MadeReclaim.{reclaim_done, reclaim_stopped}
use Rattle.file_edits.proofs.reclaiming.reclaim.Goals as goal

pub returns-clause-reclaimed : goal.returns-clause-reclaimed
returns-clause-reclaimed g c = λ honest.
    let format = c.args.format.now in
    let meaning = g.F.Format.meaning format in
    let old = g.D.Device.state c.args.device.now in
    reclaim_done meaning (g.met.F.Format.readable format) (g.met.F.WritableFormat.movable format) (g.met.F.WritableFormat.writable format)
    old (g.D.Device.state c.reclaim_lost.new.device) (whole_units meaning old (g.met.D.Device.whole c.args.device.now honest) c.requires.fits.unit)
    c.reclaim_lost.result honest c.reclaim_lost.ensures.edited

pub returns-clause-stopped : goal.returns-clause-stopped
returns-clause-stopped g c = λ honest is.
    let format = c.args.format.now in
    let meaning = g.F.Format.meaning format in
    let old = g.D.Device.state c.args.device.now in
    reclaim_stopped meaning (g.met.F.Format.readable format) (g.met.F.WritableFormat.movable format) (g.met.F.WritableFormat.writable format)
    old (g.D.Device.state c.reclaim_lost.new.device) (whole_units meaning old (g.met.D.Device.whole c.args.device.now honest) c.requires.fits.unit)
    c.reclaim_lost.result honest c.reclaim_lost.ensures.edited is
