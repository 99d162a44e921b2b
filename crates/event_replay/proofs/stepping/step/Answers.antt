use Rattle.std.proofs.Common.{true, sym, subst}
use Rattle.vol_mover.specs.Shown.{present}
use Rattle.event_replay.specs.Holds.{ASession, Fits}
use Rattle.event_replay.proofs.Devices.{met_reads}
use Rattle.event_replay.proofs.Holding.{goes_on, read_can}
use Rattle.event_replay.proofs.stepping.step.Goals as goal

pub returns-then-is_met-clause-session : goal.returns-then-is_met-clause-session
returns-then-is_met-clause-session g c =
    let state = g.D.Device.state in
    let format = g.F.Format.meaning c.args.session.format.now in
    let old = present state g.F.Format.directory c.args.session in
    let met = c.meet_read_order-session in
    let device = state met.result.0.device in
    subst (λ p. Fits format (ASession p)) (sym met.ensures.only)
    (goes_on format old device c.requires
    (read_can true old.device device (met_reads old.device device (met.ensures.met c.if-is_met.true))))
