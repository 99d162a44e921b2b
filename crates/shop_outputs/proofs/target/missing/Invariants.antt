-- Links are followed by calls that only look.
use Rattle.std.proofs.Common.{IsTrue}
use Rattle.shop_host.specs.Runs.{IsLooking}
use Rattle.shop_outputs.proofs.target.missing.Given as goal

abbrev pub invariant-loop : goal.invariant-loop
invariant-loop g l = IsTrue (g.H.Host.state l.initial.host).honest
    → IsLooking (g.H.Host.state l.initial.host) (g.H.Host.state l.host)
