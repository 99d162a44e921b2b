use Rattle.file_cmds.specs.lemmas.Exclusive.{text_or_fault, text_or_none, fault_or_none}
use Rattle.file_cmds.proofs.law.answers_exclude_one_another.Goals as goal

pub returns-clause-text_or_fault : goal.returns-clause-text_or_fault
returns-clause-text_or_fault g c = λ store name whole text.
    text_or_fault (g.F.Format.meaning c.args.format.now) (g.met.F.Format.readable c.args.format.now) (g.F.FileFormat.files c.args.format.now) store name whole text

pub returns-clause-text_or_none : goal.returns-clause-text_or_none
returns-clause-text_or_none g c = λ store name whole text.
    text_or_none (g.F.Format.meaning c.args.format.now) (g.met.F.Format.readable c.args.format.now) (g.F.FileFormat.files c.args.format.now) store name whole text

pub returns-clause-fault_or_none : goal.returns-clause-fault_or_none
returns-clause-fault_or_none g c = λ store name.
    fault_or_none (g.F.Format.meaning c.args.format.now) (g.met.F.Format.readable c.args.format.now) (g.F.FileFormat.files c.args.format.now) store name
