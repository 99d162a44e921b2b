use Rattle.std.proofs.Common.{rules, ◌≡◌, refl, sym, subst, inl, inr}
use Rattle.std.specs.Prelude.{IfOk, IsTrue}
use Rattle.a2_device.specs.Device.{DeviceState}
use Rattle.file_cmds.specs.declared.error.CmdError.TheVariants.{Check}
use Rattle.file_cmds.specs.Refusal.{refusal_of}
use Rattle.file_cmds.specs.Text.{IsEntryText, OwnFault}
use Rattle.file_cmds.proofs.Outcomes.{text_of_first}
use Rattle.file_cmds.proofs.Told.{header_fault}
use Rattle.file_cmds.proofs.reading.read.Goals as goal
use Rattle.file_formats.specs.FileNames.{name_view}

pub returns-in_err-volume-clause-check : goal.returns-in_err-volume-clause-check
returns-in_err-volume-clause-check g c = λ honest is.
    let check : refusal_of c.in_err-volume.field-0.0 ≡ Check = search rules in
    inl (header_fault (g.F.Format.meaning c.args.format.now) (g.D.Device.state c.args.device.now).store c.in_err-volume.field-0.0 check (c.in_err-volume.ensures.refused honest))

pub returns-clause-check : goal.returns-clause-check
returns-clause-check g c = λ honest is.
    let format = g.F.Format.meaning c.args.format.now in
    let directory = g.F.Format.directory c.args.format.now c.in_ok-volume.volume in
    let volume = c.in_ok-volume.ensures in
    inr (record {
      directory = directory;
      described = volume.described honest;
      file = c.in-Some.file;
      first = c.in-Some.ensures.found;
      fault = subst (λ (d : DeviceState). OwnFault format directory d.store c.in-Some.file) (volume.device.kept honest refl)
          (c.read_entry.ensures.check (subst IsTrue (sym volume.device.same.honest) honest) is);
    })

pub returns-clause-text : goal.returns-clause-text
returns-clause-text g c = λ honest.
    let format = g.F.Format.meaning c.args.format.now in
    let directory = g.F.Format.directory c.args.format.now c.in_ok-volume.volume in
    let volume = c.in_ok-volume.ensures in
    text_of_first format (g.F.FileFormat.files c.args.format.now) (g.D.Device.state c.args.device.now).store (name_view c.args.name) directory (volume.described honest)
    c.in-Some.file c.in-Some.ensures.found c.args.whole c.read_entry.result
    (subst (λ (d : DeviceState). IfOk c.read_entry.result (λ text. IsEntryText format (g.F.FileFormat.files c.args.format.now) directory d.store c.in-Some.file c.args.whole text.items))
    (volume.device.kept honest refl) (c.read_entry.ensures.text (subst IsTrue (sym volume.device.same.honest) honest)))
