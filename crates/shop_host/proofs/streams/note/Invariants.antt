-- Writing to standard error changes nothing.
use Rattle.std.proofs.Common.{IsTrue}
use Rattle.shop_host.specs.Runs.{IsLooking}
use Rattle.shop_host.proofs.streams.note.Given as goal

abbrev pub invariant-loop : goal.invariant-loop
invariant-loop g l = IsTrue (g.H.Host.state l.initial.host).honest
    → IsLooking (g.H.Host.state l.initial.host) (g.H.Host.state l.host)
