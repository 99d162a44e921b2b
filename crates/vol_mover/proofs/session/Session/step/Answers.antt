use Rattle.vol_mover.specs.Shown.{present}
use Rattle.vol_mover.proofs.Stepping.{is_done}
use Rattle.vol_mover.proofs.session.Session.step.Goals as goal
use Rattle.std.proofs.Common.{sym, ◌∙◌}

pub returns-in-None-clause-step : goal.returns-in-None-clause-step
returns-in-None-clause-step g c =
    let self = c.args.self.now in
    is_done (g.F.Format.meaning self.format.now) (g.met.F.Format.readable self.format.now) (present g.D.Device.state g.F.Format.directory self) c.if-self.false
    (sym c.next.ensures ∙ c.in-None.is)
