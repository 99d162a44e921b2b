use Rattle.std.proofs.Common.{List, subst, sym}
use Rattle.std.specs.Prelude.{Option}
use Rattle.std.specs.declared.vec.Vec.{Vec}
use Rattle.a2_device.specs.declared.part.Part.{Part}
use Rattle.file_cmds.specs.EachFile.{AreFaultlessParts, AreKeptOf}
use Rattle.file_cmds.proofs.AllParts.{parts_of_run}
use Rattle.file_cmds.proofs.each_file.VolumeFiles.parts.Goals as goal

pub returns-in-Some-clause-parts : goal.returns-in-Some-clause-parts
returns-in-Some-clause-parts g c = λ honest.
    let format = g.F.Format.meaning c.args.format.now in
    let directory = g.F.Format.directory c.args.format.now c.args.volume.now in
    let old = g.D.Device.state c.args.device.now in
    let are = subst (λ (kept : Option (Vec Part g.row.A.Denot)). AreKeptOf format directory old.store kept) c.in-Some.is (c.requires.opened.kept honest) in
    parts_of_run format directory old.store c.args.file c.requires.file
    c.as_slice.result.now (subst (λ (parts : List Part). AreFaultlessParts format directory old.store parts) (sym c.as_slice.ensures.value) are)
    c.parts_of-run.result.now c.parts_of-run.ensures.run _ c.in_ok-from_slice.ensures.items
