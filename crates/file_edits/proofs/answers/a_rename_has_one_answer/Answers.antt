use Rattle.file_edits.proofs.OneRename.{one_rename}
use Rattle.file_edits.proofs.answers.a_rename_has_one_answer.Goals as goal

pub returns : goal.returns
returns g c =
    let format = c.args.format.now in
    λ store name new one other.
    one_rename (g.F.Format.meaning format) (g.met.F.Format.readable format) (g.F.FileFormat.files format)
    (g.F.EditableFormat.names format) store name new one other
