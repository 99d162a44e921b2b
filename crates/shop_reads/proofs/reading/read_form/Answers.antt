use Rattle.std.proofs.Common.{rules, ◌≡◌, false, refl, sym, subst, inr, Err}
use Rattle.std.specs.Prelude.{IsTrue}
use Rattle.a2_device.specs.Device.{DeviceState}
use Rattle.a2_device.specs.Reading.{then_reads}
use Rattle.file_cmds.specs.declared.error.CmdError.TheVariants.{Check}
use Rattle.file_cmds.specs.Text.{OwnFault}
use Rattle.shop_reads.proofs.Readings.{no_error}
use Rattle.shop_reads.proofs.reading.read_form.Goals as goal

pub returns-in_err-whole-clause-check : goal.returns-in_err-whole-clause-check
returns-in_err-whole-clause-check g c = λ honest is.
    let format = g.F.Format.meaning c.args.format.now in
    let directory = g.F.Format.directory c.args.format.now c.in_ok-volume.volume in
    let volume = c.in_ok-volume.ensures in
    let own : Err c.in_err-whole.field-0.0 ≡ Err Check = search rules in
    inr (record {
      directory = directory;
      described = volume.described honest;
      file = c.in-Some.file;
      first = c.in-Some.ensures.found;
      fault = subst (λ (d : DeviceState). OwnFault format directory d.store c.in-Some.file) (volume.device.kept honest refl)
          (c.in_err-whole.ensures.check (subst IsTrue (sym volume.device.same.honest) honest) own);
    })

pub returns-in_default-clause-device : goal.returns-in_default-clause-device
returns-in_default-clause-device g c = c.in_ok-volume.ensures.device

pub returns-in_default-clause-some : goal.returns-in_default-clause-some
returns-in_default-clause-some g c = λ honest. tt

pub returns-in_default-clause-none : goal.returns-in_default-clause-none
returns-in_default-clause-none g c = λ honest. tt

pub returns-in_default-clause-check : goal.returns-in_default-clause-check
returns-in_default-clause-check g c = λ honest is. absurd (cc)

pub returns-clause-device : goal.returns-clause-device
returns-clause-device g c =
    then_reads false (g.D.Device.state c.args.device.now) (g.D.Device.state c.read_volume.new.device) (g.D.Device.state c.read_entry.new.device) c.in_ok-volume.ensures.device c.in_ok-whole.ensures.device

pub returns-clause-check : goal.returns-clause-check
returns-clause-check g c = λ honest is. absurd (no_error _ _ is)

pub returns-clause-not_found : goal.returns-clause-not_found
returns-clause-not_found g c = λ honest is. absurd (no_error _ _ is)

pub returns-in_default-clause-not_found : goal.returns-in_default-clause-not_found
returns-in_default-clause-not_found g c = λ honest is.
    (g.F.Format.directory c.args.format.now c.in_ok-volume.volume, c.in_ok-volume.ensures.described honest, c.in_default.ensures.none)
