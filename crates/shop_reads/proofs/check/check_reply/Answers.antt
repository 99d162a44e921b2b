use Rattle.std.proofs.Common.{inr, subst}
use Rattle.vol_check.specs.Judgement.{AreFileFaults, IfRefused, judged}
use Rattle.vol_check.specs.declared.judgement.Judgement.{Judgement}
use Rattle.shop_reads.proofs.Checks.{check_refused, faults_told, files_named}
use Rattle.shop_reads.proofs.Quiet.{check_reads, faults_read}
use Rattle.shop_reads.proofs.check.check_reply.Goals as goal

pub returns-in-Err-clause-told : goal.returns-in-Err-clause-told
returns-in-Err-clause-told g c = λ honest lack.
    inr (check_refused c.args.form (g.F.Format.meaning c.args.format.now) (g.D.Device.state c.args.device.now) c.in-Err.error c.refused_reply.result lack (c.in-Err.ensures.unread honest) c.refused_reply.ensures.told)

pub returns-in-Err-clause-reads : goal.returns-in-Err-clause-reads
returns-in-Err-clause-reads g c =
    check_reads c.refused_reply.result (g.D.Device.state c.args.device.now) (g.D.Device.state c.judge.new.device)
    c.args.form c.in-Err.error c.refused_reply.ensures.told c.in-Err.ensures.device

pub returns-in-Ok-Refused-clause-told : goal.returns-in-Ok-Refused-clause-told
returns-in-Ok-Refused-clause-told g c = λ honest lack.
    let device = g.D.Device.state c.args.device.now in
    let directory = g.F.Format.directory c.args.format.now c.in-Ok-Refused.volume in
    faults_told c.args.form (g.F.FileFormat.files c.args.format.now) (g.F.Format.meaning c.args.format.now) directory device c.in-Ok-Refused.faults
    c.faults_reply.result
    (subst (λ (judgement : Judgement g.row.F-Volume.Denot _). IfRefused (AreFileFaults (g.F.Format.meaning c.args.format.now) (g.F.Format.directory c.args.format.now (judged judgement)) device.store) judgement)
    c.in-Ok-Refused.field-0-is (c.in-Ok-Refused.ensures.refused honest))
    c.faults_reply.ensures.told

pub returns-in-Ok-Refused-clause-reads : goal.returns-in-Ok-Refused-clause-reads
returns-in-Ok-Refused-clause-reads g c =
    faults_read c.faults_reply.result (g.D.Device.state c.args.device.now) (g.D.Device.state c.judge.new.device) c.args.form c.in-Ok-Refused.faults.faults
    c.faults_reply.ensures.told c.in-Ok-Refused.ensures.device

pub returns-in-Ok-Refused-clause-files : goal.returns-in-Ok-Refused-clause-files
returns-in-Ok-Refused-clause-files g c = λ honest.
    let device = g.D.Device.state c.args.device.now in
    let directory = g.F.Format.directory c.args.format.now c.in-Ok-Refused.volume in
    files_named c.args.form (g.F.FileFormat.files c.args.format.now) (g.F.Format.meaning c.args.format.now) directory device c.in-Ok-Refused.faults
    c.faults_reply.result
    (subst (λ (judgement : Judgement g.row.F-Volume.Denot _). IfRefused (AreFileFaults (g.F.Format.meaning c.args.format.now) (g.F.Format.directory c.args.format.now (judged judgement)) device.store) judgement)
    c.in-Ok-Refused.field-0-is (c.in-Ok-Refused.ensures.refused honest))
    c.faults_reply.ensures.files
