use Rattle.edit_formats.proofs.Deletions.{whole_units}
use Rattle.std.proofs.Common.{refl}
use Rattle.pro_format.specs.Pro.{pro_meaning}
use Rattle.file_edits.specs.Making.{making}
use Rattle.file_edits.proofs.MadeDevice.{making_done, making_stopped}
use Rattle.file_edits.proofs.making.make_directory.Goals as goal

pub returns-clause-made : goal.returns-clause-made
returns-clause-made g c = λ honest.
    let old = g.D.Device.state c.args.device.now in
    making_done (making c.args.format.now old.store c.args.path.now c.args.date) old (g.D.Device.state c.make_new.new.device) refl
    (whole_units (pro_meaning c.args.format.now) old (g.met.D.Device.whole c.args.device.now honest) c.requires.fits.unit)
    c.make_new.result honest c.make_new.ensures.edited

pub returns-clause-stopped : goal.returns-clause-stopped
returns-clause-stopped g c = λ honest is.
    let old = g.D.Device.state c.args.device.now in
    making_stopped (making c.args.format.now old.store c.args.path.now c.args.date) old (g.D.Device.state c.make_new.new.device) refl
    (whole_units (pro_meaning c.args.format.now) old (g.met.D.Device.whole c.args.device.now honest) c.requires.fits.unit)
    c.make_new.result honest c.make_new.ensures.edited is
