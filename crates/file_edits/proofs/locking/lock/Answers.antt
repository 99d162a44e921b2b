use Rattle.std.specs.Prelude.{true}
use Rattle.edit_formats.specs.Edited.{IsLockEdit}
use Rattle.edit_formats.specs.Lists.{with_lock_on}
use Rattle.edit_formats.proofs.Changed.{done_changed, stopped_changed}
use Rattle.file_edits.proofs.Locked.{lock_is_one_change}
use Rattle.file_edits.proofs.locking.lock.Goals as goal
use Rattle.file_formats.specs.FileNames.{name_view}

pub returns-clause-files : goal.returns-clause-files
returns-clause-files g c = λ honest.
    let format = c.args.format.now in
    let meaning = g.F.Format.meaning format in
    let files = g.F.FileFormat.files format in
    let edits = g.F.EditableFormat.edits format in
    let name = name_view c.args.name in
    let old = g.D.Device.state c.args.device.now in
    done_changed meaning (with_lock_on files edits name true) (IsLockEdit meaning files edits old.store name true) old (g.D.Device.state c.relock.new.device)
    (lock_is_one_change meaning (g.met.F.Format.readable format) (g.met.F.WritableFormat.movable format) (g.met.F.WritableFormat.writable format)
    files edits (g.met.F.EditableFormat.lockable format) name true old (g.met.D.Device.whole c.args.device.now honest) c.requires.fits.unit)
    c.relock.result honest c.relock.ensures.edited

pub returns-clause-stopped : goal.returns-clause-stopped
returns-clause-stopped g c = λ honest is.
    let format = c.args.format.now in
    let meaning = g.F.Format.meaning format in
    let files = g.F.FileFormat.files format in
    let edits = g.F.EditableFormat.edits format in
    let name = name_view c.args.name in
    let old = g.D.Device.state c.args.device.now in
    stopped_changed meaning (with_lock_on files edits name true) (IsLockEdit meaning files edits old.store name true) old (g.D.Device.state c.relock.new.device)
    (lock_is_one_change meaning (g.met.F.Format.readable format) (g.met.F.WritableFormat.movable format) (g.met.F.WritableFormat.writable format)
    files edits (g.met.F.EditableFormat.lockable format) name true old (g.met.D.Device.whole c.args.device.now honest) c.requires.fits.unit)
    c.relock.result honest c.relock.ensures.edited is
