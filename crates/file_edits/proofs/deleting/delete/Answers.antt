use Rattle.edit_formats.proofs.Deletions.{whole_units}
use Rattle.edit_formats.proofs.MadeDeletion.{deletion_changed, deletion_stopped}
use Rattle.file_edits.proofs.deleting.delete.Goals as goal
use Rattle.file_formats.specs.FileNames.{name_view}

pub returns-clause-files : goal.returns-clause-files
returns-clause-files g c = λ honest.
    let format = c.args.format.now in
    let meaning = g.F.Format.meaning format in
    let old = g.D.Device.state c.args.device.now in
    deletion_changed meaning (g.met.F.Format.readable format) (g.met.F.WritableFormat.movable format) (g.met.F.WritableFormat.writable format) (g.met.F.EditableFormat.file_free format)
    (g.F.FileFormat.files format) (g.F.EditableFormat.erasures format) (name_view c.args.name) old (g.D.Device.state c.delete_first.new.device)
    (whole_units meaning old (g.met.D.Device.whole c.args.device.now honest) c.requires.fits.unit) c.delete_first.result honest c.delete_first.ensures.edited

pub returns-clause-stopped : goal.returns-clause-stopped
returns-clause-stopped g c = λ honest is.
    let format = c.args.format.now in
    let meaning = g.F.Format.meaning format in
    let old = g.D.Device.state c.args.device.now in
    deletion_stopped meaning (g.met.F.Format.readable format) (g.met.F.WritableFormat.movable format) (g.met.F.WritableFormat.writable format) (g.met.F.EditableFormat.file_free format)
    (g.F.FileFormat.files format) (g.F.EditableFormat.erasures format) (name_view c.args.name) old (g.D.Device.state c.delete_first.new.device)
    (whole_units meaning old (g.met.D.Device.whole c.args.device.now honest) c.requires.fits.unit) c.delete_first.result honest c.delete_first.ensures.edited is
