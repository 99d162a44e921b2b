use Rattle.file_edits.proofs.pro_directories.ProdosDirectoryFormat.has_directory.Goals as goal

pub returns-in-Err-clause-described : goal.returns-in-Err-clause-described
returns-in-Err-clause-described g c = λ directory honest describes is.
    c.in-Err.ensures.described describes.tree honest describes.described (cc)
