use Rattle.std.proofs.Common.{◌≡◌, ◌-◌, ◌≤◌, List, length}
use Rattle.vol_mover.specs.Tasks.{Task}
use Rattle.vol_mover.specs.Runs.{IsRun}
use Rattle.vol_mover.specs.Shown.{present}
use Rattle.vol_mover.proofs.Fields.{with_work}
use Rattle.vol_mover.proofs.session.Session.run.Given as goal

abbrev pub invariant-loop-made : goal.invariant-loop-made
invariant-loop-made g l = record {
  only : l.self ≡ with_work l.fn.self l.self;
  run : (made : List Task) × IsRun (g.F.Format.meaning l.fn.self.format.now) (present g.D.Device.state g.F.Format.directory l.fn.self) (present g.D.Device.state g.F.Format.directory l.self) made × (length made ≡ l.made);
  within : l.made ≤ l.limit;
}

abbrev pub decreases-loop-made : goal.decreases-loop-made
decreases-loop-made g l = l.limit - l.made
