use Rattle.std.proofs.Common.{subst}
use Rattle.file_cmds.specs.FileText.{IsFileText}
use Rattle.file_cmds.specs.declared.file_texts.FileText.{FileText}
use Rattle.file_cmds.proofs.reading.whole_text.Goals as goal

pub returns-in-Whole-clause-text : goal.returns-in-Whole-clause-text
returns-in-Whole-clause-text g c = λ honest.
    let format = g.F.Format.meaning c.args.format.now in
    let directory = g.F.Format.directory c.args.format.now c.args.volume.now in
    let store = (g.D.Device.state c.args.device.now).store in
    subst (λ (text : FileText _). IsFileText format directory store c.args.file text) c.in-Whole.is (c.in_ok-text.ensures.text honest)

pub returns-in-Faulty-clause-check : goal.returns-in-Faulty-clause-check
returns-in-Faulty-clause-check g c = λ honest is.
    let format = g.F.Format.meaning c.args.format.now in
    let directory = g.F.Format.directory c.args.format.now c.args.volume.now in
    let store = (g.D.Device.state c.args.device.now).store in
    subst (λ (text : FileText _). IsFileText format directory store c.args.file text) c.in-Faulty.is (c.in_ok-text.ensures.text honest)
