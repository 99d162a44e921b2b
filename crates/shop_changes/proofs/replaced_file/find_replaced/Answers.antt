use Rattle.std.proofs.Common.{refl, subst, sym}
use Rattle.std.specs.Prelude.{◌<◌, IsTrue}
use Rattle.a2_device.specs.Device.{DeviceState}
use Rattle.file_cmds.specs.Text.{OwnFault}
use Rattle.vol_format.specs.Directory.{entries}
use Rattle.std.proofs.lemmas.Result.{err_from_is_err_and}
use Rattle.shop_changes.proofs.Replaced.{no_own_fault, passed_on}
use Rattle.shop_changes.proofs.replaced_file.find_replaced.Goals as goal

pub returns-in_err-aux-in-None-clause-check : goal.returns-in_err-aux-in-None-clause-check
returns-in_err-aux-in-None-clause-check g c = λ honest is volume.
    let same = c.in_ok-checked.ensures.device.kept honest refl in
    let meaning = g.F.Format.meaning c.args.format.now in
    let store = (g.D.Device.state c.args.device.now).store in
    let inside = subst (λ v. c.in-Some.file < entries (g.F.Format.directory c.args.format.now v)) c.volume.ensures c.in-Some.ensures.found.inside in
    let given = err_from_is_err_and c.from_residual-in_err-aux-in-None.result c.from_residual-in_err-aux-in-None.ensures.1 in
    let fault = c.in_err-aux-in-None.ensures.check (subst (λ (d : DeviceState). IsTrue d.honest) (sym same) honest)
    (passed_on c.from_residual-in_err-aux-in-None.result c.in_err-aux-in-None.field-0.0 (cc given.2) is _ refl) in
    let here = subst (λ v. OwnFault meaning (g.F.Format.directory c.args.format.now v) (g.D.Device.state c.check.new.device).store c.in-Some.file) c.volume-in-None.ensures fault in
    no_own_fault meaning (g.F.Format.directory c.args.format.now c.in_ok-checked.checked.volume) store c.in-Some.file (c.in_ok-checked.ensures.accepted honest) inside
    (subst (λ (d : DeviceState). OwnFault meaning (g.F.Format.directory c.args.format.now c.in_ok-checked.checked.volume) d.store c.in-Some.file) same here)
