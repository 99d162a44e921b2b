use Rattle.file_edits.proofs.NewDirectories.{directory_made}
use Rattle.file_edits.proofs.directory_laws.a_new_directory_keeps_the_files.Goals as goal

pub returns : goal.returns
returns g c = λ free few at entry place old new within leads accepted unreached rest described.
    let format = c.args.format.now in
    directory_made (g.F.Format.meaning format) (g.met.F.Format.readable format) (g.met.F.WritableFormat.movable format) free
    few at entry place old new within leads accepted unreached rest described
