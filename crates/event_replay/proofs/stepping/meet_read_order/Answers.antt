use Rattle.std.proofs.Common.{sym, ◌∙◌, ap}
use Rattle.a2_device.specs.Device.{DeviceState}
use Rattle.vol_mover.specs.Shown.{present}
use Rattle.event_replay.proofs.stepping.meet_read_order.Goals as goal

pub returns-clause-only : goal.returns-clause-only
returns-clause-only g c =
    let state = g.D.Device.state in
    let old = present state g.F.Format.directory c.args.session in
    let device = state c.meet_read_order-is_met.new.self in
    c.resume.ensures.same ∙ c.pause-device.ensures.same device
    ∙ ap (λ (d : DeviceState). record old { device = d }) (sym (ap state c.resume.ensures.device))
