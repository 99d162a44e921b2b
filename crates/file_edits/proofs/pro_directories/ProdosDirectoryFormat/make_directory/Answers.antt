use Rattle.edit_formats.proofs.Edits.{edited_as}
use Rattle.file_edits.specs.Directories.{IsDirectoryEdit, pro_directories}
use Rattle.file_edits.specs.Made.{IsMaking}
use Rattle.file_edits.specs.Making.{making}
use Rattle.file_edits.proofs.pro_directories.ProdosDirectoryFormat.make_directory.Goals as goal

pub returns-clause-edited : goal.returns-clause-edited
returns-clause-edited g c =
    let old = g.D.Device.state c.args.device.now in
    edited_as c.make_directory.result old (g.D.Device.state c.make_directory.new.device)
    (IsMaking (making c.args.self.now old.store c.args.path.now c.args.date))
    (IsDirectoryEdit (pro_directories c.args.self.now) old.store c.args.path.now c.args.date)
    (λ honest writes is. (is, is.few)) c.make_directory.ensures.edited
