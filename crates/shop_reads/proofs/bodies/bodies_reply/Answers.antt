use Rattle.std.proofs.Common.{◌≡◌, ◌∙◌, List, ap, arith, get_or, inl, inr, subst, sym}
use Rattle.std.specs.Prelude.{Contains, IsTrue}
use Rattle.a2_device.specs.declared.part.Part.{Part}
use Rattle.file_cmds.specs.lemmas.Reading.{failed_at_among, none_read, one_reading}
use Rattle.vol_layout.specs.declared.form.PlaceForm.{PlaceForm}
use Rattle.vol_check.specs.Judgement.{AreFileFaults, IfAccepted, IfRefused, judged}
use Rattle.vol_check.specs.Told.{told_of, volume_of}
use Rattle.vol_check.specs.declared.checked.Checked.{Checked}
use Rattle.vol_check.specs.declared.judgement.Judgement.{Judgement}
use Rattle.vol_check.specs.declared.judgement.Judgement.TheVariants.{Accepted}
use Rattle.vol_format.proofs.Lists.{element}
use Rattle.shop_reads.specs.BodiesReply.{TellsBodies, unread_parts}
use Rattle.shop_reads.specs.CheckReply.{TellsFaults, TellsRefusal}
use Rattle.shop_volumes.specs.TellingFailures.{tells_device}
use Rattle.shop_reads.proofs.Checks.{check_refused, faults_unaccepted}
use Rattle.shop_reads.proofs.Quiet.{check_goes_on, faults_go_on}
use Rattle.shop_reads.proofs.bodies.bodies_reply.Goals as goal

-- what is said of the volume is that it is accepted
accepted_as : {V A : Type 0} (P : Checked V A → Type 0) (judgement : Judgement V A) (checked : Checked V A) → judgement ≡ Accepted checked
    → IfAccepted P judgement → P checked
accepted_as P judgement checked same is = subst (IfAccepted P) same is

pub returns-in-Err-clause-reads : goal.returns-in-Err-clause-reads
returns-in-Err-clause-reads g c =
    check_goes_on c.refused_reply.result (g.D.Device.state c.args.device.now) (g.D.Device.state c.judge.new.device) c.form-in-Err.result c.in-Err.error
    c.refused_reply.ensures.told c.in-Err.ensures.device

pub returns-in-Err-clause-told : goal.returns-in-Err-clause-told
returns-in-Err-clause-told g c = λ honest lacking.
    let old = g.D.Device.state c.args.device.now in
    let new = g.D.Device.state c.judge.new.device in
    let reads = check_goes_on c.refused_reply.result old new c.form-in-Err.result c.in-Err.error c.refused_reply.ensures.told c.in-Err.ensures.device in
    inr (check_refused (g.F.ShownFormat.form c.args.format.now) (g.F.Format.meaning c.args.format.now) old c.in-Err.error c.refused_reply.result
    (λ is. let failed = reads.told (ap tells_device is) honest in (failed.0, lacking failed.0 failed.1))
    (c.in-Err.ensures.unread honest) (subst (λ (form : PlaceForm). TellsRefusal form c.in-Err.error c.refused_reply.result) c.form-in-Err.ensures c.refused_reply.ensures.told))

pub returns-in-Ok-Refused-clause-reads : goal.returns-in-Ok-Refused-clause-reads
returns-in-Ok-Refused-clause-reads g c =
    faults_go_on c.faults_reply.result (g.D.Device.state c.args.device.now) (g.D.Device.state c.judge.new.device) _ c.in-Ok-Refused.faults.faults
    c.faults_reply.ensures.told c.in-Ok-Refused.ensures.device

pub returns-in-Ok-Refused-clause-told : goal.returns-in-Ok-Refused-clause-told
returns-in-Ok-Refused-clause-told g c = λ honest lacking.
    let old = g.D.Device.state c.args.device.now in
    let meaning = g.F.Format.meaning c.args.format.now in
    let files = g.F.FileFormat.files c.args.format.now in
    let directory = g.F.Format.directory c.args.format.now c.in-Ok-Refused.volume in
    inr (faults_unaccepted (g.F.ShownFormat.form c.args.format.now) files meaning directory old c.in-Ok-Refused.faults c.faults_reply.result
    (subst (λ (judgement : Judgement g.row.F-Volume.Denot _). IfRefused (AreFileFaults meaning (g.F.Format.directory c.args.format.now (judged judgement)) old.store) judgement)
    c.in-Ok-Refused.field-0-is (c.in-Ok-Refused.ensures.refused honest))
    (subst (λ (form : PlaceForm). TellsFaults form c.in-Ok-Refused.faults.faults c.faults_reply.result) c.form.ensures c.faults_reply.ensures.told))

pub unread_parts-requires : goal.unread_parts-requires
unread_parts-requires g c = λ k d within.
    let part = get_or c.parts.result.now k d in
    let has = subst (λ (parts : List Part). Contains parts part) c.parts.ensures (element c.parts.result.now k d within) in
    let told = accepted_as _ _ c.in-Ok-Accepted.checked c.in-Ok-Accepted.field-0-is c.in-Ok-Accepted.ensures.told in
    let places = subst (λ (judgement : Judgement g.row.F-Volume.Denot _). (g.F.Format.directory c.args.format.now (judged judgement)).places ≡ (g.D.Device.state c.args.device.now).places)
    c.in-Ok-Accepted.field-0-is c.in-Ok-Accepted.ensures.places in
    omega (arith, told.places part has, places, c.in-Ok-Accepted.ensures.device.same.places)

pub bodies_told-requires : goal.bodies_told-requires
bodies_told-requires g c = λ k d within.
    let part = get_or c.as_slice.result.now k d in
    let unread = subst (λ (parts : List Part). Contains parts part) c.as_slice.ensures.value (element c.as_slice.result.now k d within) in
    let told = accepted_as _ _ c.in-Ok-Accepted.checked c.in-Ok-Accepted.field-0-is c.in-Ok-Accepted.ensures.told in
    told.in_files part (subst (λ (parts : List Part). Contains parts part) c.parts.ensures (c.in-Ok.ensures.among part unread))

pub returns-in-Ok-clause-told : goal.returns-in-Ok-clause-told
returns-in-Ok-clause-told g c = λ honest lacking.
    let old = g.D.Device.state c.args.device.now in
    let mid = g.D.Device.state c.judge.new.device in
    let new = g.D.Device.state c.unread_parts.new.device in
    let read = c.in-Ok-Accepted.ensures.device in
    let checked = c.in-Ok-Accepted.checked in
    let directory = g.F.Format.directory c.args.format.now (volume_of checked) in
    let told = told_of checked in
    let is = c.in-Ok-Accepted.field-0-is in
    let unread = c.in-Ok.ensures.unread (subst IsTrue (sym read.same.honest) honest)
    (λ place failed. subst (λ places. Contains places place) (sym read.same.unreadable)
    (lacking place (failed_at_among place old mid new new (one_reading old mid _ read) (none_read new) failed))) in
    let same = c.as_slice.ensures.value ∙ unread ∙ ap (λ places. unread_parts places c.parts.result.now) read.same.unreadable
    ∙ ap (unread_parts old.unreadable) c.parts.ensures in
    inl (record {
      directory = directory;
      accepted = accepted_as _ _ checked is (c.in-Ok-Accepted.ensures.accepted honest);
      told = told;
      of_directory = accepted_as _ _ checked is c.in-Ok-Accepted.ensures.told;
      parts = accepted_as _ _ checked is (c.in-Ok-Accepted.ensures.parts honest);
      lost = accepted_as _ _ checked is (c.in-Ok-Accepted.ensures.lost honest);
      is = subst (λ (parts : List Part). TellsBodies (g.F.ShownFormat.form c.args.format.now) (g.F.FileFormat.files c.args.format.now) directory told parts c.bodies_told.result)
          same c.bodies_told.ensures;
    })
