use Rattle.std.proofs.Common.{rules, ◌≡◌, ap}
use Rattle.std.specs.Prelude.{Err}
use Rattle.file_cmds.specs.declared.error.CmdError.TheVariants.{Check}
use Rattle.file_cmds.proofs.Outcomes.{whole_answered, body_answered}
use Rattle.file_cmds.proofs.reading.read_entry.Goals as goal

pub returns-then-whole-clause-text : goal.returns-then-whole-clause-text
returns-then-whole-clause-text g c = λ honest.
    whole_answered (g.F.Format.meaning c.args.format.now) (g.F.FileFormat.files c.args.format.now) (g.D.Device.state c.args.device.now).store
    (g.F.Format.directory c.args.format.now c.args.volume.now) c.args.file c.in_ok-text.text.items (c.in_ok-text.ensures.text honest) c.args.whole c.if-whole.true

pub returns-clause-text : goal.returns-clause-text
returns-clause-text g c = λ honest.
    body_answered (g.F.Format.meaning c.args.format.now) (g.F.FileFormat.files c.args.format.now) (g.D.Device.state c.args.device.now).store
    (g.F.Format.directory c.args.format.now c.args.volume.now) c.args.file c.in_ok-text.text.items (c.in_ok-text.ensures.text honest) c.args.whole
    c.in_ok-body.field-0.items c.in_ok-body.ensures c.if-whole.false

pub returns-in_err-text-clause-check : goal.returns-in_err-text-clause-check
returns-in_err-text-clause-check g c = λ honest is.
    let check : c.in_err-text.field-0.0 ≡ Check = search rules in
    c.in_err-text.ensures.check honest (ap Err check)
