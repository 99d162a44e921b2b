use Rattle.vol_laws.proofs.SystemUnits.{copy_system, pointer_system, mark_system, marks_system}
use Rattle.vol_laws.proofs.system.each_write_keeps_the_system.Goals as goal

pub returns-clause-copy : goal.returns-clause-copy
returns-clause-copy g c =
    let format = c.args.format.now in
    copy_system (g.F.Format.meaning format) (g.met.F.WritableFormat.movable format)

pub returns-clause-pointer : goal.returns-clause-pointer
returns-clause-pointer g c =
    let format = c.args.format.now in
    pointer_system (g.F.Format.meaning format) (g.met.F.Format.readable format) (g.met.F.WritableFormat.movable format) (g.met.F.WritableFormat.writable format)

pub returns-clause-mark : goal.returns-clause-mark
returns-clause-mark g c =
    let format = c.args.format.now in
    mark_system (g.F.Format.meaning format) (g.met.F.Format.readable format) (g.met.F.WritableFormat.movable format) (g.met.F.WritableFormat.writable format)

pub returns-clause-marks : goal.returns-clause-marks
returns-clause-marks g c =
    let format = c.args.format.now in
    λ directory store at marks accepted full can available. marks_system (g.F.Format.meaning format) (g.met.F.Format.readable format) (g.met.F.WritableFormat.movable format) (g.met.F.WritableFormat.writable format) at marks directory store accepted full can available
