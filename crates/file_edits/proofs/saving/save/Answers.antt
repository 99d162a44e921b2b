use Rattle.edit_formats.proofs.Deletions.{whole_units}
use Rattle.file_edits.proofs.MadeSaving.{saving_done, saving_stopped}
use Rattle.file_edits.proofs.saving.save.Goals as goal

pub returns-clause-saved : goal.returns-clause-saved
returns-clause-saved g c = λ honest.
    let format = c.args.format.now in
    let meaning = g.F.Format.meaning format in
    let old = g.D.Device.state c.args.device.now in
    saving_done meaning (g.met.F.Format.readable format) (g.met.F.WritableFormat.movable format) (g.met.F.WritableFormat.writable format) (g.met.F.EditableFormat.file_free format)
    (g.F.SavableFormat.saves format) (g.met.F.SavableFormat.savable format) c.args.file.now.path.now c.args.file.now.attributes.now c.args.file.now.stored.now c.args.file.now.units.now
    old (g.D.Device.state c.save_new.new.device)
    (whole_units meaning old (g.met.D.Device.whole c.args.device.now honest) c.requires.fits.unit) c.save_new.result honest c.save_new.ensures.edited

pub returns-clause-stopped : goal.returns-clause-stopped
returns-clause-stopped g c = λ honest is.
    let format = c.args.format.now in
    let meaning = g.F.Format.meaning format in
    let old = g.D.Device.state c.args.device.now in
    saving_stopped meaning (g.met.F.Format.readable format) (g.met.F.WritableFormat.movable format) (g.met.F.WritableFormat.writable format) (g.met.F.EditableFormat.file_free format)
    (g.F.SavableFormat.saves format) (g.met.F.SavableFormat.savable format) c.args.file.now.path.now c.args.file.now.attributes.now c.args.file.now.stored.now c.args.file.now.units.now
    old (g.D.Device.state c.save_new.new.device)
    (whole_units meaning old (g.met.D.Device.whole c.args.device.now honest) c.requires.fits.unit) c.save_new.result honest c.save_new.ensures.edited is
