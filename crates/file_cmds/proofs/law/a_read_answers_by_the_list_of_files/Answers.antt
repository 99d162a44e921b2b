use Rattle.file_cmds.proofs.ByList.{text_by_list, none_by_list, readable}
use Rattle.file_cmds.proofs.law.a_read_answers_by_the_list_of_files.Goals as goal

pub returns-clause-text : goal.returns-clause-text
returns-clause-text g c = λ store files name whole text has.
    text_by_list (g.F.Format.meaning c.args.format.now) (g.met.F.Format.readable c.args.format.now) (g.F.FileFormat.files c.args.format.now) store files has name whole text

pub returns-clause-none : goal.returns-clause-none
returns-clause-none g c = λ store files name has.
    none_by_list (g.F.Format.meaning c.args.format.now) (g.met.F.Format.readable c.args.format.now) (g.F.FileFormat.files c.args.format.now) store files has name

pub returns-clause-readable : goal.returns-clause-readable
returns-clause-readable g c = λ store files name has.
    readable (g.F.Format.meaning c.args.format.now) (g.met.F.Format.readable c.args.format.now) (g.F.FileFormat.files c.args.format.now) store files has name
