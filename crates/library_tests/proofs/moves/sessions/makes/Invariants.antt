use Rattle.vol_mover.specs.Tasks.{Course}
use Rattle.vol_mover.specs.Present.{IsSession}
use Rattle.vol_mover.specs.Shown.{present}
use Rattle.library_tests.proofs.moves.sessions.makes.Given as goal

abbrev pub invariant-loop : goal.invariant-loop
invariant-loop g l = (course : Course) × IsSession (g.F.Format.meaning l.session.format.now) (present g.D.Device.state g.F.Format.directory l.session) course
