use Rattle.std.proofs.Common.{◌≡◌, sym, ◌∙◌, subst}
use Rattle.vol_mover.specs.Resuming.{CanResume}
use Rattle.vol_mover.specs.Shown.{present}
use Rattle.event_replay.specs.Holds.{ASession, Fits, IsOfFormat, ReadsFileToOrder, ReadsHolds, held}
use Rattle.event_replay.proofs.Holding.{file_can, goes_on, with_device}
use Rattle.event_replay.proofs.turning.Replay.read.Goals as goal

pub returns-in-Session-clause-sound : goal.returns-in-Session-clause-sound
returns-in-Session-clause-sound g c =
    let state = g.D.Device.state in
    let directory = g.F.Format.directory in
    let format = g.F.Format.meaning c.args.self.format.now in
    let old = present state directory c.in-Session.session in
    let new = present state directory c.resume.result in
    let device = state c.read_to_order-answer.new.device in
    let is : new ≡ record old { device = device } = c.resume.ensures.same ∙ c.pause-device.ensures.same device in
    let can = subst (λ d. CanResume (state d) device) c.pause-device.ensures.device (file_can _ _ _ _ _ _ c.read_to_order-answer.ensures) in
    record {
      format = c.resume.ensures.format ∙ c.pause-device.ensures.format ∙ subst (IsOfFormat c.args.self.format.now) c.in-Session.is c.requires.format;
      fits = subst (λ p. Fits format (ASession p)) (sym is)
          (goes_on format old device (subst (λ h. Fits format (held state directory h)) c.in-Session.is c.requires.fits) can);
    }

pub returns-in-Session-clause-reads : goal.returns-in-Session-clause-reads
returns-in-Session-clause-reads g c =
    let state = g.D.Device.state in
    let directory = g.F.Format.directory in
    let format = g.F.Format.meaning c.args.self.format.now in
    let files = g.F.FileFormat.files c.args.self.format.now in
    let old = present state directory c.in-Session.session in
    let new = present state directory c.resume.result in
    let device = state c.read_to_order-answer.new.device in
    let is = with_device old new device (c.resume.ensures.same ∙ c.pause-device.ensures.same device) in
    let path = c.args.path.now in
    let answer = c.read_to_order-answer.result in
    let reads = subst (λ d. ReadsFileToOrder format files path (state d) answer device) c.pause-device.ensures.device c.read_to_order-answer.ensures in
    subst (λ h. ReadsHolds format files path (held state directory h) answer (ASession new)) (sym c.in-Session.is)
    (subst (λ d. ReadsFileToOrder format files path old.device answer d) (sym is.0) reads, is.1)
