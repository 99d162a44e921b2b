use Rattle.edit_formats.proofs.MadeDeletion.{deletion_done, deletion_stopped}
use Rattle.file_edits.proofs.deletion.a_deletion_made_takes_out_one_file.Goals as goal

pub returns-clause-done : goal.returns-clause-done
returns-clause-done g c =
    let format = c.args.format.now in
    λ name result old new honest full edited.
    deletion_done (g.F.Format.meaning format) (g.met.F.Format.readable format) (g.met.F.WritableFormat.movable format) (g.met.F.WritableFormat.writable format)
    (g.met.F.EditableFormat.file_free format) (g.F.FileFormat.files format) (g.F.EditableFormat.erasures format) name old new full result honest edited

pub returns-clause-stopped : goal.returns-clause-stopped
returns-clause-stopped g c =
    let format = c.args.format.now in
    λ name result old new honest full edited is.
    deletion_stopped (g.F.Format.meaning format) (g.met.F.Format.readable format) (g.met.F.WritableFormat.movable format) (g.met.F.WritableFormat.writable format)
    (g.met.F.EditableFormat.file_free format) (g.F.FileFormat.files format) (g.F.EditableFormat.erasures format) name old new full result honest edited is
