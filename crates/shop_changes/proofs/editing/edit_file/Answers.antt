use Rattle.std.proofs.Common.{◌≡◌, ◌∙◌, sym, ap, subst}
use Rattle.edit_formats.specs.Writes.{HasEdited}
use Rattle.file_formats.specs.FileNames.{name_view}
use Rattle.shop_jobs.specs.Job.{EditView, Rename, edit_view}
use Rattle.shop_changes.specs.EditRules.{edit_rules}
use Rattle.shop_changes.specs.Edits.{AreWritesOf, IsOldOrEdited}
use Rattle.shop_changes.proofs.editing.edit_file.Goals as goal

pub returns-in-Rename-clause-edited : goal.returns-in-Rename-clause-edited
returns-in-Rename-clause-edited g c =
    let same : edit_view c.args.edit.now ≡ Rename c.as_bytes.result.now = ap edit_view c.in-Rename.is ∙ ap Rename (sym c.as_bytes.ensures.value) in
    subst (λ (edit : EditView). HasEdited {T = Unit {0}} (AreWritesOf edit (name_view c.args.name) (g.F.FileFormat.files c.args.format.now)
    (edit_rules (g.F.EditableFormat.edits c.args.format.now) (g.F.EditableFormat.names c.args.format.now) (g.F.EditableFormat.erasures c.args.format.now) (g.F.SavableFormat.saves c.args.format.now)) (g.F.Format.meaning c.args.format.now)
    (g.D.Device.state c.args.device.now).store) c.rename.result (g.D.Device.state c.args.device.now) (g.D.Device.state c.rename.new.device)) (sym same) c.rename.ensures.edited

pub returns-in-Rename-clause-stopped : goal.returns-in-Rename-clause-stopped
returns-in-Rename-clause-stopped g c = λ honest failed.
    let same : edit_view c.args.edit.now ≡ Rename c.as_bytes.result.now = ap edit_view c.in-Rename.is ∙ ap Rename (sym c.as_bytes.ensures.value) in
    subst (λ (edit : EditView). IsOldOrEdited edit (name_view c.args.name) (g.F.FileFormat.files c.args.format.now)
    (edit_rules (g.F.EditableFormat.edits c.args.format.now) (g.F.EditableFormat.names c.args.format.now) (g.F.EditableFormat.erasures c.args.format.now) (g.F.SavableFormat.saves c.args.format.now)) (g.F.Format.meaning c.args.format.now)
    (g.D.Device.state c.args.device.now).store (g.D.Device.state c.rename.new.device).store) (sym same) (c.rename.ensures.stopped honest failed)
