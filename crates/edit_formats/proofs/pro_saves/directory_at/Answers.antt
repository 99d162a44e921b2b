use Rattle.edit_formats.proofs.pro_saves.directory_at.Goals as goal

pub returns-in-Err-clause-described : goal.returns-in-Err-clause-described
returns-in-Err-clause-described g c = λ tree honest describes is. c.in-Err.ensures.described tree honest describes (cc)
