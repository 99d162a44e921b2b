use Rattle.std.proofs.Common.{sym, subst, List, Err, inl, inr}
use Rattle.std.proofs.lemmas.Result.{IfOk-weaker}
use Rattle.a2_device.specs.Device.{OnlyReads}
use Rattle.a2_device.specs.declared.part.Part.{Part}
use Rattle.vol_check.specs.Answer.{is_device_error}
use Rattle.vol_check.specs.Told.{told_of}
use Rattle.vol_check.specs.declared.error.CheckError.{CheckError}
use Rattle.file_cmds.specs.EachFile.{AreFaultlessParts}
use Rattle.file_cmds.specs.lemmas.Reading.{one_failed}
use Rattle.file_cmds.proofs.AllParts.{faultless_parts, parts_within, refused_by}
use Rattle.file_cmds.proofs.each_file.VolumeFiles.open.Goals as goal

pub returns-in-Ok-clause-opened : goal.returns-in-Ok-clause-opened
returns-in-Ok-clause-opened g c =
    let format = g.F.Format.meaning c.args.format.now in
    let directory = g.F.Format.directory c.args.format.now c.args.volume.now in
    let device = g.D.Device.state c.args.device.now in
    let told = c.in-Ok.ensures in
    record {
      within = parts_within directory (told_of c.in-Ok.checked) c.into_parts-parts.result.1.items device.places told.told c.into_parts-parts.ensures.parts c.requires.places;
      walker = tt;
      kept = λ honest.
          subst (λ (parts : List Part). AreFaultlessParts format directory device.store parts) (sym c.into_parts-parts.ensures.parts)
          (faultless_parts format directory device.store (told_of c.in-Ok.checked).parts (told.accepted honest) (told.parts honest));
    }

pub returns-in-Err-Faults-clause-none : goal.returns-in-Err-Faults-clause-none
returns-in-Err-Faults-clause-none g c = λ honest.
    IfOk-weaker c.walked.result _ _
    (λ files is none. inl (refused_by (g.F.Format.meaning c.args.format.now) (g.F.Format.directory c.args.format.now c.args.volume.now)
    (g.D.Device.state c.args.device.now).store (g.met.F.Format.readable c.args.format.now)
    c.in-Err-Faults.field-0 c.in-Err-Faults.field-0-0 c.in-Err-Faults.field-0-is (c.in-Err-Faults.ensures.refused honest)))
    c.walked.ensures.parts

pub returns-in-Err-Device-clause-none : goal.returns-in-Err-Device-clause-none
returns-in-Err-Device-clause-none g c = λ honest.
    let old = g.D.Device.state c.args.device.now in
    let new = g.D.Device.state c.check.new.device in
    IfOk-weaker c.walked-in-Err-Device.result _ _
    (λ files is none. inr (one_failed old new honest
    (subst (λ (error : CheckError _). OnlyReads (is_device_error {T = Unit {0}} (Err error)) old new) c.in-Err-Device.field-0-is c.in-Err-Device.ensures.device)))
    c.walked-in-Err-Device.ensures.parts
