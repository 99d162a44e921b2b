use Rattle.std.proofs.Common.{◌∙◌, arith, refl, sym, subst}
use Rattle.std.specs.Prelude.{IsTrue}
use Rattle.a2_device.specs.Stop.{is_stop_of_device}
use Rattle.a2_device.specs.declared.stop.Stop.{Stop}
use Rattle.vol_check.specs.FileWalker.{faults_of, parts_of}
use Rattle.file_cmds.specs.FileParts.{IsPartsAlone}
use Rattle.file_cmds.proofs.OwnParts.{fails_alone, parts_alone, refused_for}
use Rattle.file_cmds.specs.lemmas.FileAlone.{entries-alone, root_of-other}
use Rattle.file_cmds.proofs.file_parts.walked_parts.Goals as goal

pub walk-requires-clause-alone : goal.walk-requires-clause-alone
walk-requires-clause-alone g c = λ other differ.
    root_of-other (g.F.Format.directory c.args.format.now c.args.volume.now) c.args.file other differ

pub walk-requires-clause-described : goal.walk-requires-clause-described
walk-requires-clause-described g c = λ honest.
    (refl, (g.met.D.Device.whole c.args.device.now honest).all ∙ sym c.requires.places)

pub walk-requires-clause-file : goal.walk-requires-clause-file
walk-requires-clause-file g c =
    omega (arith, c.requires.file, entries-alone (g.F.Format.directory c.args.format.now c.args.volume.now) c.args.file)

pub returns-in_ok-from_slice-in-Ok-true-clause-parts : goal.returns-in_ok-from_slice-in-Ok-true-clause-parts
returns-in_ok-from_slice-in-Ok-true-clause-parts g c = λ honest.
    let format = g.F.Format.meaning c.args.format.now in
    let directory = g.F.Format.directory c.args.format.now c.args.volume.now in
    let store = (g.D.Device.state c.args.device.now).store in
    let walked = c.in-Ok-true.ensures.faultless honest c.in-Ok-true.field-0-test in
    subst (IsPartsAlone format directory store c.args.file) (sym c.parts.ensures ∙ sym c.in_ok-from_slice-in-Ok-true.ensures.items)
    (parts_alone format (g.met.F.Format.readable c.args.format.now) directory (g.met.F.Format.rooted c.args.format.now c.args.volume.now) c.args.file
    store (parts_of c.walk.new.self) c.requires.file walked.accepted walked.are_parts)

pub returns-in-Ok-false-clause-parts : goal.returns-in-Ok-false-clause-parts
returns-in-Ok-false-clause-parts g c = λ honest.
    let format = g.F.Format.meaning c.args.format.now in
    let all = (g.met.D.Device.whole c.args.device.now honest).all in
    refused_for format (g.met.F.Format.readable c.args.format.now)
    (g.F.Format.directory c.args.format.now c.args.volume.now) (g.met.F.Format.rooted c.args.format.now c.args.volume.now) c.args.file
    (g.D.Device.state c.args.device.now).store (subst format.Takes (sym all) c.requires.fits.places) (all ∙ sym c.requires.places)
    (faults_of c.walk.new.self) (c.in-Ok-false.ensures.refused honest c.in-Ok-false.field-0-test)

pub returns-in-Err-Device-clause-failed : goal.returns-in-Err-Device-clause-failed
returns-in-Err-Device-clause-failed g c = λ honest failed.
    fails_alone (g.F.Format.meaning c.args.format.now) (g.met.F.Format.readable c.args.format.now)
    (g.F.Format.directory c.args.format.now c.args.volume.now) (g.met.F.Format.rooted c.args.format.now c.args.volume.now) c.args.file
    (g.D.Device.state c.args.device.now) (g.D.Device.state c.walk.new.device)
    (c.in-Err-Device.ensures.failed honest (subst (λ (stop : Stop). IsTrue (is_stop_of_device stop)) (sym c.in-Err-Device.field-0-is) refl))
