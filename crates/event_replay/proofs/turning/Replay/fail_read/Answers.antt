use Rattle.std.proofs.Common.{◌≡◌, refl, sym, ◌∙◌, ap, subst}
use Rattle.a2_device.specs.Device.{DeviceState}
use Rattle.vol_mover.specs.Shown.{present}
use Rattle.event_replay.specs.Holds.{ASession, ChangesHolds, Fits, IsOfFormat, held}
use Rattle.event_replay.specs.Orders.{read_ordered}
use Rattle.event_replay.proofs.Holding.{goes_on}
use Rattle.event_replay.proofs.turning.Replay.fail_read.Goals as goal

pub returns-in-Session-clause-sound : goal.returns-in-Session-clause-sound
returns-in-Session-clause-sound g c =
    let state = g.D.Device.state in
    let directory = g.F.Format.directory in
    let format = g.F.Format.meaning c.args.self.format.now in
    let old = present state directory c.in-Session.session in
    let new = present state directory c.resume.result in
    let device = state c.order_read.new.self in
    let changed : device ≡ read_ordered old.device = c.order_read.ensures ∙ ap (λ d. read_ordered (state d)) c.pause-device.ensures.device in
    let is : new ≡ record old { device = read_ordered old.device } =
    c.resume.ensures.same ∙ c.pause-device.ensures.same device ∙ ap (λ (d : DeviceState). record old { device = d }) changed in
    record {
      format = c.resume.ensures.format ∙ c.pause-device.ensures.format ∙ subst (IsOfFormat c.args.self.format.now) c.in-Session.is c.requires.format;
      fits = subst (λ p. Fits format (ASession p)) (sym is)
          (goes_on format old (read_ordered old.device) (subst (λ h. Fits format (held state directory h)) c.in-Session.is c.requires.fits)
          (record { places = refl; unit_size = refl; honest = λ honest. honest; store = λ honest. refl }));
    }

pub returns-in-Session-clause-ordered : goal.returns-in-Session-clause-ordered
returns-in-Session-clause-ordered g c =
    let state = g.D.Device.state in
    let directory = g.F.Format.directory in
    let old = present state directory c.in-Session.session in
    let new = present state directory c.resume.result in
    let device = state c.order_read.new.self in
    let changed : device ≡ read_ordered old.device = c.order_read.ensures ∙ ap (λ d. read_ordered (state d)) c.pause-device.ensures.device in
    let is : new ≡ record old { device = read_ordered old.device } =
    c.resume.ensures.same ∙ c.pause-device.ensures.same device ∙ ap (λ (d : DeviceState). record old { device = d }) changed in
    subst (λ h. ChangesHolds read_ordered (held state directory h) (ASession new)) (sym c.in-Session.is) is
