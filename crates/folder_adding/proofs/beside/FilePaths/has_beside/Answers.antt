use Rattle.std.proofs.Common.{◌∙◌, ap, sym}
use Rattle.folder_adding.specs.HostEntries.{has_file_beside}
use Rattle.folder_adding.proofs.FilesBeside.{beside_file, beside_none}
use Rattle.folder_adding.proofs.beside.FilePaths.has_beside.Goals as goal

pub returns-in-Some : goal.returns-in-Some
returns-in-Some c = λ entries are.
    c.contains.ensures ∙ are c.in-Some.file.now ∙ beside_file entries c.in-Some.file.now
    ∙ ap (has_file_beside entries) (sym c.in-Some.ensures.some)

pub returns-in-None : goal.returns-in-None
returns-in-None c = λ entries are. beside_none entries c.args.path.now c.in-None.ensures.none
