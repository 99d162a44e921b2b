use Rattle.edit_formats.specs.Renamed.{IsRenameEdit, with_new_name}
use Rattle.edit_formats.proofs.Changed.{done_changed, stopped_changed}
use Rattle.file_edits.proofs.Renamed.{rename_is_one_change}
use Rattle.file_edits.proofs.naming.rename.Goals as goal
use Rattle.file_formats.specs.FileNames.{name_view}

pub returns-clause-files : goal.returns-clause-files
returns-clause-files g c = λ honest.
    let format = c.args.format.now in
    let meaning = g.F.Format.meaning format in
    let files = g.F.FileFormat.files format in
    let names = g.F.EditableFormat.names format in
    let name = name_view c.args.name in
    let new = c.args.new.now in
    let old = g.D.Device.state c.args.device.now in
    done_changed meaning (with_new_name files names name new) (IsRenameEdit meaning files names old.store name new) old (g.D.Device.state c.rename_first.new.device)
    (rename_is_one_change meaning (g.met.F.Format.readable format) (g.met.F.WritableFormat.movable format) (g.met.F.WritableFormat.writable format)
    files names (g.met.F.EditableFormat.namable format) name new old (g.met.D.Device.whole c.args.device.now honest) c.requires.fits.unit)
    c.rename_first.result honest c.rename_first.ensures.edited

pub returns-clause-stopped : goal.returns-clause-stopped
returns-clause-stopped g c = λ honest is.
    let format = c.args.format.now in
    let meaning = g.F.Format.meaning format in
    let files = g.F.FileFormat.files format in
    let names = g.F.EditableFormat.names format in
    let name = name_view c.args.name in
    let new = c.args.new.now in
    let old = g.D.Device.state c.args.device.now in
    stopped_changed meaning (with_new_name files names name new) (IsRenameEdit meaning files names old.store name new) old (g.D.Device.state c.rename_first.new.device)
    (rename_is_one_change meaning (g.met.F.Format.readable format) (g.met.F.WritableFormat.movable format) (g.met.F.WritableFormat.writable format)
    files names (g.met.F.EditableFormat.namable format) name new old (g.met.D.Device.whole c.args.device.now honest) c.requires.fits.unit)
    c.rename_first.result honest c.rename_first.ensures.edited is
