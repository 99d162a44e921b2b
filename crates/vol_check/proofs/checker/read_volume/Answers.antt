use Rattle.std.proofs.Common.{List, sym, subst, inl}
use Rattle.std.specs.List.{Contains}
use Rattle.a2_device.specs.declared.fault.Fault.{Fault}
use Rattle.vol_check.specs.Answer.{AreFaults}
use Rattle.vol_check.specs.FaultFiles.{AreOfFiles, FaultList}
use Rattle.vol_check.proofs.Pushed.{only}
use Rattle.vol_check.proofs.Verdict.{one_fault}
use Rattle.vol_check.proofs.checker.read_volume.Goals as goal

pub returns-in_ok-faults-in-Err-Fault-clause-refused : goal.returns-in_ok-faults-in-Err-Fault-clause-refused
returns-in_ok-faults-in-Err-Fault-clause-refused g c = λ honest.
    let format = g.F.Format.meaning c.args.format.now in
    let store = (g.D.Device.state c.args.device.now).store in
    subst (λ (list : FaultList). AreFaults format store list.faults) (sym c.of_files.ensures)
    (one_fault format store c.in-Err-Fault.fault c.in_ok-faults-in-Err-Fault.faults.items
    (g.met.F.Format.readable c.args.format.now) (c.in-Err-Fault.ensures.refused honest c.in-Err-Fault.fault c.in-Err-Fault.field-0-is)
    c.in_ok-faults-in-Err-Fault.ensures.items)

pub returns-in_ok-faults-in-Err-Fault-clause-files : goal.returns-in_ok-faults-in-Err-Fault-clause-files
returns-in_ok-faults-in-Err-Fault-clause-files g c = λ honest.
    let format = g.F.Format.meaning c.args.format.now in
    let store = (g.D.Device.state c.args.device.now).store in
    let fault = c.in-Err-Fault.ensures.refused honest c.in-Err-Fault.fault c.in-Err-Fault.field-0-is in
    subst (AreOfFiles format store) (sym c.of_files.ensures)
    (inl (
      c.new.ensures.items,
      λ f has. subst (format.HeaderFaultAt store)
          (sym (only c.in-Err-Fault.fault f (subst (λ (fs : List Fault). Contains fs f) c.in_ok-faults-in-Err-Fault.ensures.items has))) fault,
    ))
