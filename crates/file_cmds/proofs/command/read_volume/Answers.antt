use Rattle.std.proofs.Common.{rules, ◌≡◌}
use Rattle.file_cmds.specs.declared.error.CmdError.TheVariants.{Check}
use Rattle.file_cmds.specs.Refusal.{refusal_of}
use Rattle.file_cmds.proofs.Told.{header_fault}
use Rattle.file_cmds.proofs.command.read_volume.Goals as goal

pub returns-in_err-volume-clause-check : goal.returns-in_err-volume-clause-check
returns-in_err-volume-clause-check g c = λ honest is.
    let check : refusal_of c.in_err-volume.field-0.0 ≡ Check = search rules in
    header_fault (g.F.Format.meaning c.args.format.now) (g.D.Device.state c.args.device.now).store c.in_err-volume.field-0.0 check (c.in_err-volume.ensures.refused honest)
