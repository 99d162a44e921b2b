use Rattle.std.proofs.Common.{refl, subst, sym}
use Rattle.std.specs.Prelude.{IsTrue, Ok}
use Rattle.std.specs.declared.alloc.AllocError.{AllocError}
use Rattle.a2_device.specs.Device.{OnlyReads}
use Rattle.file_cmds.specs.FileParts.{IsFileParts, has_failed}
use Rattle.file_cmds.specs.declared.file_parts.FileParts.{FileParts}
use Rattle.file_cmds.proofs.OwnTexts.{own_part_fails, text_of_own}
use Rattle.file_cmds.proofs.each_file.VolumeFiles.text.Goals as goal

pub returns-in-Whole-clause-text : goal.returns-in-Whole-clause-text
returns-in-Whole-clause-text g c = λ honest.
    let format = g.F.Format.meaning c.args.format.now in
    let directory = g.F.Format.directory c.args.format.now c.args.volume.now in
    let old = g.D.Device.state c.args.device.now in
    let mid = g.D.Device.state c.parts.new.device in
    let read = subst (λ (parts : FileParts _). OnlyReads (has_failed {E = AllocError} (Ok parts)) old mid) c.in-Whole.is c.in_ok-parts.ensures.device in
    let own = subst (λ (parts : FileParts _). IsFileParts format directory old.store c.args.file parts) c.in-Whole.is (c.in_ok-parts.ensures.parts honest) in
    text_of_own format directory c.args.file old mid (read.kept honest refl) c.in-Whole.parts.items own c.as_slice.result.now c.as_slice.ensures.value
    (g.met.F.Format.readable c.args.format.now) c.requires.fits.unit c.text_by.result
    (c.text_by.ensures.text (subst IsTrue (sym read.same.honest) honest))

pub returns-in-Whole-clause-failed : goal.returns-in-Whole-clause-failed
returns-in-Whole-clause-failed g c = λ honest failed.
    let format = g.F.Format.meaning c.args.format.now in
    let directory = g.F.Format.directory c.args.format.now c.args.volume.now in
    let old = g.D.Device.state c.args.device.now in
    let mid = g.D.Device.state c.parts.new.device in
    let read = subst (λ (parts : FileParts _). OnlyReads (has_failed {E = AllocError} (Ok parts)) old mid) c.in-Whole.is c.in_ok-parts.ensures.device in
    let own = subst (λ (parts : FileParts _). IsFileParts format directory old.store c.args.file parts) c.in-Whole.is (c.in_ok-parts.ensures.parts honest) in
    own_part_fails format directory c.args.file old mid (read.kept honest refl) c.in-Whole.parts.items own c.as_slice.result.now c.as_slice.ensures.value
    (g.D.Device.state c.text_by.new.device) (c.text_by.ensures.failed (subst IsTrue (sym read.same.honest) honest) failed)

pub returns-in-Faulty-clause-text : goal.returns-in-Faulty-clause-text
returns-in-Faulty-clause-text g c = λ honest.
    let format = g.F.Format.meaning c.args.format.now in
    let directory = g.F.Format.directory c.args.format.now c.args.volume.now in
    let old = g.D.Device.state c.args.device.now in
    subst (λ (parts : FileParts _). IsFileParts format directory old.store c.args.file parts) c.in-Faulty.is (c.in_ok-parts.ensures.parts honest)
