use Rattle.file_edits.proofs.OneDeletion.{one_deletion}
use Rattle.file_edits.proofs.answers.a_deletion_has_one_answer.Goals as goal

pub returns : goal.returns
returns g c =
    let format = c.args.format.now in
    λ store name one other.
    one_deletion (g.F.Format.meaning format) (g.met.F.Format.readable format) (g.F.FileFormat.files format)
    (g.F.EditableFormat.erasures format) store name one other
